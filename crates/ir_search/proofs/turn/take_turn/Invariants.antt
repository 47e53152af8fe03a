use Rattle.std.proofs.Common.{◌≡◌, ◌≤◌, length}
use Rattle.ir_search.specs.Following.{AreOpen, StaysOpen}
use Rattle.ir_search.specs.Kept.{IsRowFollowed, SearchKeeps}
use Rattle.ir_search.specs.Origins.{IsLevel}
use Rattle.ir_search.proofs.turn.take_turn.Given as goal

abbrev pub invariant-loop-from : goal.invariant-loop-from
invariant-loop-from g l = record {
  row : IsRowFollowed ((g.S.Successors.shape l.graph).noted l.thread) l.opened.items l.found.nodes.items;
  opens : AreOpen l.opened.items l.level.first l.from;
  stays : StaysOpen l.fn.opened.items l.opened.items;
  nodes : length l.found.nodes.items ≡ (g.S.Successors.shape l.graph).size;
  until : l.level.until ≤ length l.found.nodes.items;
  level : IsLevel l.found.nodes.items l.level;
  keeps : SearchKeeps l.level.number (g.S.Successors.shape l.fn.graph) (g.S.Successors.shape l.graph) (g.S.Successors.is_sound l.graph)
      l.fn.found.nodes.items l.found.nodes.items l.found.refusals.items;
}
