-- What callers may cite of threads that go on to a cut.
-- where all threads rest, all are at their targets, and a thread rests where none has gone on
pub use Rattle.ir_replay.proofs.Reached.{all_rest_reaches_target, rests_in_same_state}
