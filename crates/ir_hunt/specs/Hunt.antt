-- What is hunted.
use Rattle.std.specs.Prelude.{ℕ, Bool, List, Option, map}
use Rattle.ir_image.specs.Guest.{Guest}
use Rattle.ir_record_command.specs.Plan.{Plan}
use Rattle.ir_schedule.specs.Conditions.{Condition, as_condition}
use Rattle.ir_schedule.specs.declared.way.Way.{Way}
use Rattle.ir_hunt.specs.declared.plan.HuntPlan.{HuntPlan}

pub record Hunt : Type 0 where
  pub guest : Guest
  -- how each run goes but for its order
  pub plan : Plan
  -- how a seed chooses which thread goes on
  pub way : Way
  -- how many choices each thread has in the run in rounds, by which some ways choose
  pub choices : List ℕ
  -- what has to hold of what a run came to, all of it
  pub conditions : List Condition
  -- whether a stale write of a run has to rest on what was read: one, or none; or nothing is asked
  pub wanted : Option Bool

-- the hunt of a plan
abbrev pub hunt_of : Guest → HuntPlan → List ℕ → Hunt
hunt_of guest plan choices = record {
  guest = guest;
  plan = plan.record;
  way = plan.way;
  choices = choices;
  conditions = map as_condition plan.conditions.now;
  wanted = plan.stale;
}
