-- What callers may cite.
pub use Rattle.ir_record_command.proofs.Numerals.{digits_numeral_model}
