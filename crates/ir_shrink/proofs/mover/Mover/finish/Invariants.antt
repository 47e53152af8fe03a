use Rattle.std.proofs.Common.{ℕ, length}
use Rattle.ir_record.specs.Recording.{turns_of_items}
use Rattle.ir_record.specs.Worlds.{AreSameWorlds}
use Rattle.ir_shrink.specs.Items.{AreJoined, passes_of}
use Rattle.ir_shrink.specs.Moments.{Followed, IsReady, moment_of}
use Rattle.ir_shrink.proofs.mover.Mover.finish.Given as goal

abbrev pub invariant-passes : goal.invariant-passes
invariant-passes g l = record {
  followed : (count : ℕ) × Followed (turns_of_items (passes_of (length l.fn.self.flat.threads) l.endless count)) (moment_of g.W.World.answers l.fn.self)
      (moment_of g.W.World.answers l.self);
  ready : IsReady g.W.World.broken l.self;
  joined : AreJoined l.fn.self.items.items → AreJoined l.self.items.items;
  kept : AreSameWorlds g.W.World.origin l.fn.self.worlds.items l.self.worlds.items;
}
