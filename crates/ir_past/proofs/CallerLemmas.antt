-- What callers may cite of a trace's past.
-- an event is of a thread that there is, is found at its place, and is logged by its label
pub use Rattle.ir_past.proofs.Rows.{event_thread_exists, before_next_event, before_next_event_cases}
pub use Rattle.ir_past.proofs.Open.{slice_get_from_get_or, entered_object_unique, slice_get_is_unique, events_fit_objects, entered_object_below, open_read_stays_open, open_read_was_open}
-- what made a version that is entered, and the versions below a write entry's
pub use Rattle.ir_past.proofs.Noted.{entered_was_made, below_write_was_made, write_label_write_event}
-- one write entry is at a version, the one that is noted
pub use Rattle.ir_past.proofs.Noted.{version_writer_unique, noted_writer_is_unique}
-- answers that are written, aren't begun or are stopped, and those that say why bytes are no coherent trace
pub use Rattle.ir_past.proofs.Shown.{answered_if_written, no_memory_no_answer, not_answered_if_stopped, reply_if_answered, refusal_is_answered}
pub use Rattle.ir_past.proofs.Shown.{refusal_status_is_answer, answer_status_no_failure}
-- steps of a run: what they log, and what they do to an object that they enter, leave or pass by
pub use Rattle.ir_past.proofs.Returning.{Enters, logged_count, log_of_own_step, log_of_other_step, target_after_step}
pub use Rattle.ir_past.proofs.Returning.{other_object_after_step, IsEntering, entry_label_is_entering, exiting_is_inside}
pub use Rattle.ir_past.proofs.Returning.{entering_is_not_inside, own_step_keeps_or_exits, other_step_adds_leaves}
-- what a thread enters it leaves
pub use Rattle.ir_past.proofs.Leaving.{complete_entry_is_left, trail_of_own_step, rest_emits_own, emits_cons_other, rest_emits_other}
pub use Rattle.ir_past.proofs.Leaving.{emits_cons_own, first_label_is_own, emits_own_first_label, outside_after_exit}
pub use Rattle.ir_past.proofs.Written.{nothing_is_prefix, stops_after_first_part, writer_failed_in_text, failed_stops_after_part}
pub use Rattle.ir_past.proofs.Reading.{nothing_before_first}
