use Rattle.std.proofs.Common.{length}
use Rattle.ir_flat.specs.Flat.{tables}
use Rattle.ir_record.specs.Progress.{all_left}
use Rattle.ir_schedule.specs.Choices.{CanChoose}
use Rattle.ir_record.specs.Worlds.{AreSameWorlds}
use Rattle.ir_schedule.specs.Moments.{moment_of, Ran, AllThreadsRest, IsReady}
use Rattle.ir_schedule.proofs.runner.Runner.run.Given as goal

abbrev pub invariant-choices : goal.invariant-choices
invariant-choices g l = record {
  kept : AreSameWorlds g.W.World.origin l.fn.self.worlds.items l.self.worlds.items;
  ran : Ran l.fn.tries (moment_of g.W.World.answers l.fn.self) l.fn.chooser (moment_of g.W.World.answers l.self) l.chooser;
  ready : IsReady g.W.World.broken l.self;
  rest : AllThreadsRest l.fn.tries l.self.flat;
  serves : CanChoose (length l.self.flat.threads) l.chooser;
}

abbrev pub decreases-choices : goal.decreases-choices
decreases-choices g l = all_left (length l.self.flat.threads) (tables l.self.flat).now
