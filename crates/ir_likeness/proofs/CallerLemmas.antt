-- What callers may cite of threads as a search sees them.
-- a thread and its view
pub use Rattle.ir_likeness.proofs.View.{seen_machine_is_lawful, view_asks_same_or_spent, seen_machine_is_view, live_or_next_spoils, shared_done_ask_done}
-- threads that look the same
pub use Rattle.ir_likeness.proofs.Same.{look_same}
-- a guest's start, whatever its budget
pub use Rattle.ir_likeness.proofs.Start.{start_view_any_budget}
-- what a guest's complete runs come to
pub use Rattle.ir_likeness.proofs.Guests.{guest_invariant_start, start_state_is_unspoilt, guest_all, guest_shown, guest_outcome_of_done, guest_outcome_is_path}
