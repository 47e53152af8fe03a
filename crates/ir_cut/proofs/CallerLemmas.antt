-- What callers may cite of cuts.
-- all runs with a trace have the same steps of each thread, so what is kept of one is kept of each
pub use Rattle.ir_fit.proofs.CallerLemmas.{missing_has_no_trail, trail_same_in_runs}
pub use Rattle.ir_cut.proofs.Closed.{cut_of_zeros_is_zero, first_cut_is_consistent}
