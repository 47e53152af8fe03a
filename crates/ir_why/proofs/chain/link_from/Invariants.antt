use Rattle.std.proofs.Common.{◌≤◌, ◌<◌, ℕ}
use Rattle.ir_why.specs.Needed.{NeedsOther}
use Rattle.ir_why.proofs.chain.link_from.Given as goal

-- the events that aren't looked at
abbrev pub decreases-loop-needs : goal.decreases-loop-needs
decreases-loop-needs l = l.event

abbrev pub invariant-loop-needs : goal.invariant-loop-needs
invariant-loop-needs l = record {
  within : l.event ≤ l.fn.here.event;
  none : (m u j : ℕ) → l.event < m → m ≤ l.fn.here.event → NeedsOther l.trace l.fn.here.thread m u j → ⊥;
}
