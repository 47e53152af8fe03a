use Rattle.std.proofs.Common.{◌≡◌, ◌≤◌, ◌-◌}
use Rattle.ir_hunt.specs.Hunt.{hunt_of}
use Rattle.ir_hunt.specs.Tried.{AreTried}
use Rattle.ir_hunt.proofs.tries.tried.Given as goal

-- those below this seed were tried
abbrev pub invariant-seeds : goal.invariant-seeds
invariant-seeds g l = record {
  image : l.seeker.image ≡ l.fn.seeker.image;
  plan : l.seeker.plan ≡ l.fn.seeker.plan;
  from : l.first ≤ l.seed;
  to : l.seed ≤ l.last;
  few : l.left_out ≤ l.seed - l.first;
  tried : AreTried (hunt_of l.fn.seeker.image.now l.fn.seeker.plan.now l.choices) l.first (l.seed - l.first) l.left_out;
}

abbrev pub decreases-seeds : goal.decreases-seeds
decreases-seeds g l = l.last - l.seed
