-- What callers may cite of the outcomes of a guest.
-- before the first level nothing is listed
pub use Rattle.ir_outcomes.proofs.Listed.{explored_before_first}
-- for what a search over the states stops, that for outcomes ends
pub use Rattle.ir_outcomes.proofs.Ends.{may_end_by_stop}
-- fewer levels are left once one is gone over; a search goes on, and goes on again
pub use Rattle.ir_outcomes.proofs.Steps.{exploring_goes_on_further, fewer_levels_left}
