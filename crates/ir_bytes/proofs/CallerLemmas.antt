-- What callers may cite of readings.
-- the steps of a reading that met no fault
pub use Rattle.ir_bytes.proofs.Steps.{two_binds_are_ok, three_binds_are_ok, four_binds_are_ok, five_binds_are_ok, six_binds_are_ok}
pub use Rattle.ir_bytes.proofs.Steps.{guard_passed_if_ok, test_passed_if_ok, no_fault_if_judged_ok, conditional_cases, ok_is_injective}
pub use Rattle.ir_bytes.proofs.Steps.{test_true_if_no_fault, no_fault_if_test_true, number_is_fixed, fixed_number_no_fault, number_within}
pub use Rattle.ir_bytes.proofs.Steps.{within_has_no_fault}
-- the bytes of a number
pub use Rattle.ir_bytes.proofs.Numbers.{IsBytes, is_bytes_by_elements, drop_of_bytes_is_bytes, IsEncoded, prefix_encodes_number, bytes_are_little_bytes, little_bytes_1, take_of_bytes_is_bytes}
-- a field that is read is the field that was written, and what was written is read again
pub use Rattle.ir_bytes.proofs.Fields.{Takes, takes_append, number_at_takes_number, number_at-little_bytes, TakesField}
pub use Rattle.ir_bytes.proofs.Fields.{field_at_takes_field, field_at-little_bytes, takes_single_byte, number_at_takes_byte}
pub use Rattle.ir_bytes.proofs.Fields.{number_at_of_byte, field_at_of_byte, TakesBytes, bytes_at_takes_bytes, AreParts}
pub use Rattle.ir_bytes.proofs.Fields.{bytes_at_gives_parts, bytes_at_fails_if_short, bytes_at_of_append, TakesFields}
pub use Rattle.ir_bytes.proofs.Fields.{fields_at_takes_fields, fields_at_of_encodings}
-- a loop that reads one after the other
pub use Rattle.ir_bytes.proofs.Loop.{with_prefix, prefixed_fields_at_step, fields_at_fails, fields_total_is_prefix}
-- the first fault of a format is the fault that its reading meets
pub use Rattle.ir_bytes.proofs.Refused.{after_reading, Follows, Begins, Refuses, field_at_follows_field, number_at_follows, bytes_at_begins}
pub use Rattle.ir_bytes.proofs.Refused.{field_at_begins, number_at_begins, sequence_follows_fields, sequence_begins}
pub use Rattle.ir_bytes.proofs.Refused.{sequence_begins_by_rest, sequence_refuses_format, rest_refuses_format, fault_of_trailing_test}
pub use Rattle.ir_bytes.proofs.Refused.{fields_at_begins}
