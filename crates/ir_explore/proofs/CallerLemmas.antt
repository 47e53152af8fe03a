-- What callers may cite of the outcomes of a guest.
-- what the threads and objects of a state came to, is their outcome as conditions see it
pub use Rattle.ir_explore.proofs.Fulfilled.{end_state_is_seen}
