use Rattle.std.proofs.Common.{◌≡◌, ◌-◌}
use Rattle.std.specs.Prelude.{All}
use Rattle.ir_hunt.specs.Parts.{IsBegun}
use Rattle.ir_hunt.proofs.search.try_stretches.Given as goal

-- the seeds of the part were tried, the workers are of the hunt, and the time is bounded as it was
abbrev pub invariant-stretches : goal.invariant-stretches
invariant-stretches g l = record {
  tries : All (λ w. w.tries ≡ l.fn.own) l.workers;
  same : l.own ≡ l.fn.own;
  begun : IsBegun l.fn.own l.seeds l.part;
  seconds : l.pace.seconds ≡ l.fn.pace.seconds;
}

abbrev pub decreases-stretches : goal.decreases-stretches
decreases-stretches g l = l.seeds.last - l.part.seeds.last
