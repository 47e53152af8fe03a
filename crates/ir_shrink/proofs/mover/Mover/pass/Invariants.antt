use Rattle.std.proofs.Common.{◌≡◌, ◌<◌, ℕ, false}
use Rattle.ir_record.specs.Recording.{turns_of_items}
use Rattle.ir_record.specs.Worlds.{AreSameWorlds}
use Rattle.ir_shrink.specs.Items.{AreJoined, pass_of}
use Rattle.ir_shrink.specs.Moments.{Followed, HasNoStep, IsReady, moment_of}
use Rattle.ir_shrink.proofs.mover.Mover.pass.Given as goal

abbrev pub invariant-each : goal.invariant-each
invariant-each g l = record {
  followed : Followed (turns_of_items (pass_of l.t l.endless)) (moment_of g.W.World.answers l.fn.self) (moment_of g.W.World.answers l.self);
  none : l.moved ≡ false → (u : ℕ) → u < l.t → HasNoStep (moment_of g.W.World.answers l.self) u;
  ready : IsReady g.W.World.broken l.self;
  joined : AreJoined l.fn.self.items.items → AreJoined l.self.items.items;
  kept : AreSameWorlds g.W.World.origin l.fn.self.worlds.items l.self.worlds.items;
}
