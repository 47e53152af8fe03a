use Rattle.std.proofs.Common.{◌≡◌, ℕ, length, replicate}
use Rattle.ir_flat.specs.Flat.{tables}
use Rattle.ir_record.specs.Progress.{TookSteps, all_left}
use Rattle.ir_record.specs.Recorders.{progress_of, CanContinue}
use Rattle.ir_record.specs.Worlds.{AreSameWorlds}
use Rattle.ir_record.proofs.in_order.recorder.Recorder.turns_alone.Given as goal

abbrev pub invariant-turns : goal.invariant-turns
invariant-turns g l = record {
  took : (count : ℕ) × TookSteps (replicate count 0) (progress_of g.W.World.answers l.fn.self) (progress_of g.W.World.answers l.self);
  one : length l.self.guest.flat.threads ≡ 1;
  ready : CanContinue g.W.World.answers g.W.World.broken l.self;
  kept : AreSameWorlds g.W.World.origin l.fn.self.worlds.items l.self.worlds.items;
}

abbrev pub decreases-turns : goal.decreases-turns
decreases-turns g l = all_left 1 (tables l.self.guest.flat).now
