use Rattle.std.proofs.Common.{◌≡◌, ◌≤◌, length}
use Rattle.ir_search.specs.Kept.{AreRowsFollowed, SearchKeeps}
use Rattle.ir_search.specs.Levels.{rows, AllOpen}
use Rattle.ir_search.specs.Origins.{IsLevel}
use Rattle.ir_search.proofs.level.take_level.Given as goal

abbrev pub invariant-loop-thread : goal.invariant-loop-thread
invariant-loop-thread g l = record {
  followed : AreRowsFollowed (g.S.Successors.shape l.graph).noted (rows l.opened) l.found.nodes.items;
  before : AllOpen (rows l.opened) 0 l.level.first (length l.fn.opened);
  opens : AllOpen (rows l.opened) 0 l.level.until l.thread;
  threads : length l.opened ≡ length l.fn.opened;
  nodes : length l.found.nodes.items ≡ (g.S.Successors.shape l.graph).size;
  until : l.level.until ≤ length l.found.nodes.items;
  level : IsLevel l.found.nodes.items l.level;
  keeps : SearchKeeps l.level.number (g.S.Successors.shape l.fn.graph) (g.S.Successors.shape l.graph) (g.S.Successors.is_sound l.graph)
      l.fn.found.nodes.items l.found.nodes.items l.found.refusals.items;
}
