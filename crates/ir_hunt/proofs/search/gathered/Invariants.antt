use Rattle.std.proofs.Common.{◌≡◌, ◌-◌}
use Rattle.ir_hunt.specs.Parts.{IsBegun}
use Rattle.ir_hunt.proofs.search.gathered.Given as goal

-- the seeds of the part were tried
abbrev pub invariant-parts : goal.invariant-parts
invariant-parts g l = record {
  same : l.own ≡ l.fn.own;
  begun : IsBegun l.fn.own l.seeds l.part;
}

abbrev pub decreases-parts : goal.decreases-parts
decreases-parts g l = l.seeds.last - l.part.seeds.last
