-- What callers may cite of traces.
-- what is recorded is within the limits of any profile
pub use Rattle.ir_trace.proofs.Limits.{recorded_threads_within, recorded_objects_within}
