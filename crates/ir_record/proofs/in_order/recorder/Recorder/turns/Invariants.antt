use Rattle.std.proofs.Common.{◌≤◌, ◌-◌, replicate}
use Rattle.ir_record.specs.Progress.{TookSteps}
use Rattle.ir_record.specs.Recorders.{progress_of, CanContinue}
use Rattle.ir_record.specs.Worlds.{AreSameWorlds}
use Rattle.ir_record.proofs.in_order.recorder.Recorder.turns.Given as goal

abbrev pub invariant-turns : goal.invariant-turns
invariant-turns g l = record {
  few : l.left ≤ l.count;
  took : TookSteps (replicate (l.count - l.left) l.t) (progress_of g.W.World.answers l.fn.self)
      (progress_of g.W.World.answers l.self);
  ready : CanContinue g.W.World.answers g.W.World.broken l.self;
  kept : AreSameWorlds g.W.World.origin l.fn.self.worlds.items l.self.worlds.items;
}

abbrev pub decreases-turns : goal.decreases-turns
decreases-turns g l = l.left
