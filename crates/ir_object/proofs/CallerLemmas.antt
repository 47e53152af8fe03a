-- What callers may cite of objects.
-- what a word says of who is inside is kept by each step
pub use Rattle.ir_object.proofs.Stands.{readers_by_old_and_new, none_reads_no_readers, none_writes_no_writer, has_writer_if_writer}
pub use Rattle.ir_object.proofs.Stands.{has_writer_unchanged, admitted_reader_no_writer, no_writer_admits_reader, admitted_writer_is_alone}
pub use Rattle.ir_object.proofs.Stands.{none_inside_admits_writer, counts_after_entry, inside_thread_can_leave, counts_after_leave}
pub use Rattle.ir_object.proofs.Stands.{readers_at_most_threads}
-- object steps in one order: one step more, and what a thread's own steps emit
pub use Rattle.ir_object.proofs.Order.{of_thread_own_step, of_thread_other_step, objects_after_step, order_labels_after_step}
pub use Rattle.ir_object.proofs.Order.{legal_order_after_step, legal_order_is_allowed, missing_thread_no_steps, objects_then_at_target}
pub use Rattle.ir_object.proofs.Order.{objects_then_other, inside_after_order, inside_after_step, WriterIsAlone, writer_alone_after_act}
-- what a step of a thread makes of the word that it finds
pub use Rattle.ir_object.proofs.Words.{reader_entry_fields, writer_entry_fields, reader_leave_fields, writer_leave_fields}
