-- What callers may cite of the flat interpreter.
-- each step keeps what is kept
pub use Rattle.ir_flat.proofs.Kept.{events_added_by, events_after_ask, length-held_after_ask}
-- the threads and objects after a step, as lists
pub use Rattle.ir_flat.proofs.Next.{states_equal_from_parts}
-- a step keeps what the lists of threads and objects always keep
pub use Rattle.ir_flat.proofs.Keeps.{may_step_iff_admits, cell_counts_within, inside_within_threads, entered_fields_fit, left_fields_fit}
pub use Rattle.ir_flat.proofs.Keeps.{flat_inside_can_leave, next_keeps_thread_count, next_keeps_object_count, next_is_flat}
pub use Rattle.ir_flat.proofs.Keeps.{entered_object_exists, tried_object_exists, may_step_iff_can_ask, tables_of_next}
-- at the start no thread is inside an object
pub use Rattle.ir_flat.proofs.Fresh.{length_of_start_threads, length_of_start_cells, start_thread_is_fresh, start_has_no_steps}
pub use Rattle.ir_flat.proofs.Fresh.{start_fields_are_zero, start_words_are_first, length_of_first_words, none_inside_at_start}
-- what holds in each state that a run of a guest reaches
pub use Rattle.ir_flat.proofs.Runs.{guest_start_is_idle, guest_run_not_stuck, run_object_counts_fit, zero_is_result}
-- what threads count along a run
pub use Rattle.ir_flat.proofs.Counted.{moved_thread, threads_after_step, stepping_thread_not_done, shared_done_is_done, tallies_along_run}
-- the spliced list is a run, in which each thread takes its own steps
pub use Rattle.ir_flat.proofs.Splice.{splice_runs_with_trails}
-- threads and objects stay within their bounds along a run
pub use Rattle.ir_flat.proofs.Bounded.{StepsFit, CodeFits, IsWithin, profiles_of, get_or-start_threads, within_bounds_run_end}
