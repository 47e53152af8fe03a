use Rattle.std.proofs.Common.{take}
use Rattle.ir_record.specs.Progress.{TookTurns}
use Rattle.ir_record.specs.Recorders.{progress_of, CanContinue}
use Rattle.ir_record.specs.Recording.{turns_of_items}
use Rattle.ir_record.specs.Worlds.{AreSameWorlds}
use Rattle.ir_record.proofs.in_order.recorder.Recorder.follow.Given as goal

abbrev pub invariant-order : goal.invariant-order
invariant-order g l = record {
  took : TookTurns (turns_of_items (take l.item-index l.order)) (progress_of g.W.World.answers l.fn.self)
      (progress_of g.W.World.answers l.self);
  ready : CanContinue g.W.World.answers g.W.World.broken l.self;
  kept : AreSameWorlds g.W.World.origin l.fn.self.worlds.items l.self.worlds.items;
}
