use Rattle.std.proofs.Common.{◌≡◌}
use Rattle.ir_why.specs.Tables.{IsGathered, unscanned}
use Rattle.ir_why.proofs.before.past_of.Given as goal

-- the events that aren't scanned
abbrev pub decreases-loop-past : goal.decreases-loop-past
decreases-loop-past l = unscanned l.trace l.past.scanned.items

abbrev pub invariant-loop-past : goal.invariant-loop-past
invariant-loop-past l = record {
  of : l.past.of ≡ l.fn.here;
  gathered : IsGathered l.trace l.past.of.thread l.past.of.event l.past.counts.items l.past.scanned.items;
}
