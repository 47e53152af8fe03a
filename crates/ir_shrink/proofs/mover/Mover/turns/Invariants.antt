use Rattle.std.proofs.Common.{◌≡◌, ◌<◌, ◌≤◌, ◌-◌, length, replicate}
use Rattle.ir_record.specs.Worlds.{AreSameWorlds}
use Rattle.ir_shrink.specs.Moments.{IsReady, Took, moment_of}
use Rattle.ir_shrink.proofs.mover.Mover.turns.Given as goal

abbrev pub invariant-turns : goal.invariant-turns
invariant-turns g l = record {
  within : l.taken ≤ l.count;
  thread : l.t < length l.self.flat.threads;
  took : Took (replicate l.taken (l.t, l.refused)) (replicate l.taken (l.t, l.refused)) (moment_of g.W.World.answers l.fn.self)
      (moment_of g.W.World.answers l.self);
  ready : IsReady g.W.World.broken l.self;
  items : l.self.items ≡ l.fn.self.items;
  kept : AreSameWorlds g.W.World.origin l.fn.self.worlds.items l.self.worlds.items;
}

abbrev pub decreases-turns : goal.decreases-turns
decreases-turns g l = l.count - l.taken
