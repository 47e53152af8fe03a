-- What callers may cite of the table of a recording.
-- how many entries the threads have made
pub use Rattle.ir_crew.proofs.Counting.{entries_with_step_added}
-- each step of the table keeps its rule
pub use Rattle.ir_crew.proofs.Steps.{track, step_of_deed, target_of_deed}
