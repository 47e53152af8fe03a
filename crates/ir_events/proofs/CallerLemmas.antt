-- What callers may cite of walks over a recorded run.
-- the step at the position of an event emits what is logged of it
pub use Rattle.ir_events.proofs.Again.{events_are_logged}
-- the ends of the threads, and that all are there where none can go on
pub use Rattle.ir_events.proofs.Ends.{ends_are_step_counts, ends_are_consistent_cut, all_at_ends_if_all_rest}
-- threads that go on by themselves, one after the other
pub use Rattle.ir_events.proofs.Passes.{further_reflexive, further_after_gone, further_transitive, pass_at_start, pass_after_next_thread, pass_lowers_steps_left}
