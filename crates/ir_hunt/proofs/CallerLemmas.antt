-- Lemmas for callers.
-- a run whose stale writes are known by its trace
pub use Rattle.ir_hunt.proofs.Recorded.{run_has_stale}
