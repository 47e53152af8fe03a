use Rattle.std.proofs.Common.{◌≡◌, suc, ◌-◌}
use Rattle.ir_outcomes.specs.Exploring.{IsExploring, levels_left}
use Rattle.ir_outcomes.proofs.explored.explore.Given as goal

abbrev pub invariant-levels : goal.invariant-levels
invariant-levels g l = record {
  is : IsExploring l.exploring;
  setup : l.exploring.states.graph.setup ≡ l.setup;
  bounds : l.exploring.states.graph.bounds ≡ l.fn.bounds;
  most : l.exploring.most ≡ l.most;
}

abbrev pub decreases-levels : goal.decreases-levels
decreases-levels g l = levels_left l.exploring.stop (suc l.exploring.most - l.exploring.states.search.level.number)
