use Rattle.std.proofs.Common.{◌≤◌, length}
use Rattle.ir_search.specs.Following.{Stay}
use Rattle.ir_outcomes.specs.Explored.{IsFew}
use Rattle.ir_outcomes.specs.Exploring.{HasShown}
use Rattle.ir_outcomes.proofs.listing.show_new.Given as goal

abbrev pub invariant-loop-node : goal.invariant-loop-node
invariant-loop-node l = record {
  has : HasShown l.states.graph.setup l.states.graph.flats.items l.states.search.found.nodes.items l.node l.list.listed.items l.list.outcomes.items;
  few : IsFew l.states.graph.bounds (length l.list.outcomes.items);
  stay : Stay l.fn.list.outcomes.items l.list.outcomes.items;
  within : l.node ≤ length l.states.search.found.nodes.items;
}
