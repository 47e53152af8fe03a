-- What callers' proofs cite.
-- threads that differ in dead registers alone ask the same, and differ so again after the same result
pub use Rattle.ir_liveness.proofs.Threads.{differ_in_dead_lasts}
pub use Rattle.ir_liveness.proofs.Agreement.{at_same_point, differ_in_dead_sym, differ_in_dead_trans}
-- the number of a call that a7 asks for
pub use Rattle.ir_liveness.proofs.Steps.{call_number_below_limit}
