use Rattle.std.proofs.Common.{take}
use Rattle.ir_record.specs.Recording.{turns_of_items}
use Rattle.ir_record.specs.Worlds.{AreSameWorlds}
use Rattle.ir_shrink.specs.Items.{AreJoined}
use Rattle.ir_shrink.specs.Moments.{Followed, IsReady, moment_of}
use Rattle.ir_shrink.proofs.mover.Mover.follow.Given as goal

abbrev pub invariant-items : goal.invariant-items
invariant-items g l = record {
  followed : Followed (turns_of_items (take l.item-index l.items)) (moment_of g.W.World.answers l.fn.self) (moment_of g.W.World.answers l.self);
  ready : IsReady g.W.World.broken l.self;
  joined : AreJoined l.fn.self.items.items → AreJoined l.self.items.items;
  kept : AreSameWorlds g.W.World.origin l.fn.self.worlds.items l.self.worlds.items;
}
