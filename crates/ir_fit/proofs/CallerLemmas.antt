-- What callers may cite of traces that fit.
-- a guest's threads and objects at the start
pub use Rattle.ir_fit.proofs.Guests.{guest_start_is_start}
-- a guest with a trace is one that the trace's profile allows
pub use Rattle.ir_fit.proofs.Guests.{header_guest_is_allowed}
-- what is seen of a thread's next step, by what the thread asks
pub use Rattle.ir_fit.proofs.Seen.{end_asked, ends_now_is_end_asked, drop_mapped_labels, suited_call_can_follow, true_test_cell_open}
pub use Rattle.ir_fit.proofs.Seen.{false_test_cell_shut, open_entry_can_follow, shut_entry_is_stopped, refused_try_can_follow, GotIn}
pub use Rattle.ir_fit.proofs.Seen.{try_not_refused_got_in, open_try_can_follow, shut_try_is_stopped, call_ask_is_not_done}
pub use Rattle.ir_fit.proofs.Seen.{entry_ask_is_not_done, ask_of_try_is_not_done, unsuited_call_disagrees, unsuited_entry_differs}
pub use Rattle.ir_fit.proofs.Seen.{unsuited_try_disagrees, without_move_is_stopped}
-- where the entries and leaves of a run are: the positions that are kept, against what the steps emit
pub use Rattle.ir_fit.proofs.Listed.{get_or_is_at, at_is_get_or, emitting_is_guest_thread, entries_count_events, event_position_emits}
pub use Rattle.ir_fit.proofs.Listed.{entry_step_is_of_event, event_positions_rise, event_position_below, leave_step_emits_leave}
pub use Rattle.ir_fit.proofs.Listed.{emitted_leave_is_placed, leave_positions_rise}
-- the positions that are kept are those of each run with the trace
pub use Rattle.ir_fit.proofs.Placements.{idle_has_empty_trail, missing_has_no_trail, trail_same_in_runs, length-placed_of}
pub use Rattle.ir_fit.proofs.Recordable.{steps_within_budget}
