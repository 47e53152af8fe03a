-- What callers may cite of orders and their runs.
-- the run by an order is one
pub use Rattle.ir_order.proofs.OneRun.{one_run_by_turns, one_run_by_order}
-- a recording with a list is of the run by it, and one; a recording in turns is of the run by their order
pub use Rattle.ir_order.proofs.Recorded.{list_recordings_of_run, plain_recordings_of_run, one_recording_by_list, recording_is_of_run}
-- the list of turns spells them
pub use Rattle.ir_order.proofs.Lists.{nonempty_list_spells}
-- a complete run has a step
pub use Rattle.ir_order.proofs.Complete.{complete_have_steps}
