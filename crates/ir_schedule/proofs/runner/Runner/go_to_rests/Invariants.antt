use Rattle.std.proofs.Common.{◌≡◌, ◌<◌, ℕ, length}
use Rattle.ir_record.specs.Worlds.{AreSameWorlds}
use Rattle.ir_schedule.specs.Moments.{moment_of, Ran, IsAtRest, IsReady}
use Rattle.ir_schedule.specs.declared.chooser.Chooser.{Chooser}
use Rattle.ir_schedule.proofs.runner.Runner.go_to_rests.Given as goal

abbrev pub invariant-threads : goal.invariant-threads
invariant-threads g l = record {
  kept : AreSameWorlds g.W.World.origin l.fn.self.worlds.items l.self.worlds.items;
  ran : (c : Chooser) → Ran l.fn.tries (moment_of g.W.World.answers l.fn.self) c (moment_of g.W.World.answers l.self) c;
  ready : IsReady g.W.World.broken l.self;
  rest : (u : ℕ) → u < l.t → IsAtRest l.fn.tries l.self.flat u;
  threads : length l.self.flat.threads ≡ length l.fn.self.flat.threads;
}
