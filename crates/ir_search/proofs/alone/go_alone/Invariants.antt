use Rattle.std.proofs.Common.{◌≡◌, ◌+◌, length}
use Rattle.ir_search.specs.Following.{IsNodeOpen, StaysOpen}
use Rattle.ir_search.specs.Kept.{SearchKeeps}
use Rattle.ir_search.specs.TurnSoFar.{IsTurnSoFar, left_to_open}
use Rattle.ir_search.proofs.alone.go_alone.Given as goal

abbrev pub invariant-pending : goal.invariant-pending
invariant-pending g l = record {
  turn : IsTurnSoFar (g.S.Successors.shape l.graph).noted l.fn.start.thread l.fn.start.level l.opened.items l.found.nodes.items l.found.refusals.items l.found.pending.items;
  opens : IsNodeOpen l.opened.items l.fn.start.from;
  stays : StaysOpen l.fn.opened.items l.opened.items;
  nodes : length l.found.nodes.items ≡ (g.S.Successors.shape l.graph).size;
  keeps : SearchKeeps l.fn.start.level (g.S.Successors.shape l.fn.graph) (g.S.Successors.shape l.graph) (g.S.Successors.is_sound l.graph)
      l.fn.found.nodes.items l.found.nodes.items l.found.refusals.items;
}

abbrev pub decreases-pending : goal.decreases-pending
decreases-pending g l = left_to_open (g.S.Successors.shape l.graph).most l.opened.items + length l.found.pending.items
