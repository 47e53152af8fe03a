-- What callers may cite of bytes that are opened as a guest and a trace of one of its runs.
-- the trace of a run is coherent
pub use Rattle.ir_opened.proofs.Coherent.{run_trace_is_coherent}
-- where the events of a thread are among its steps, and the leaves of what it entered
pub use Rattle.ir_opened.proofs.Leaves.{recorded_is_inside, inside_below_events, entry_position_fits_64, leave_is_past_event}
pub use Rattle.ir_opened.proofs.Leaves.{leave_is_within_thread, leave_position_fits_64, leave_of_read_emits, leave_of_write_emits}
pub use Rattle.ir_opened.proofs.Leaves.{earlier_entry_step_le, emits_in_each_run}
-- lists whose elements belong to those of another, made one element after the other
pub use Rattle.ir_opened.proofs.Paired.{slice_get_as_get_or, ArePairedTo, paired_to_no_element, paired_to_next_element, paired_if_all_paired_to}
-- what an event enters its thread leaves
pub use Rattle.ir_opened.proofs.Left.{entering_event_has_leave, event_step_emits_label}
