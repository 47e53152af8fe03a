use Rattle.std.proofs.Common.{◌≡◌, ◌<◌, ℕ, length}
use Rattle.ir_flat.specs.Flat.{tables}
use Rattle.ir_record.specs.Progress.{all_left}
use Rattle.ir_record.specs.Worlds.{AreSameWorlds}
use Rattle.ir_schedule.specs.Moments.{moment_of, Ran, TookSome, IsAtRest, OthersRest, IsReady}
use Rattle.ir_schedule.specs.declared.chooser.Chooser.{Chooser}
use Rattle.ir_schedule.proofs.runner.Runner.go_on.Given as goal

abbrev pub invariant-steps : goal.invariant-steps
invariant-steps g l = record {
  kept : AreSameWorlds g.W.World.origin l.fn.self.worlds.items l.self.worlds.items;
  ran : (c : Chooser) → Ran l.fn.tries (moment_of g.W.World.answers l.fn.self) c (moment_of g.W.World.answers l.self) c;
  ready : IsReady g.W.World.broken l.self;
  thread : l.t < length l.self.flat.threads;
  lower : (u : ℕ) → u < l.t → IsAtRest l.fn.tries l.self.flat u;
  others : OthersRest l.fn.tries l.t l.fn.self.flat l.self.flat;
  fewer : TookSome 0 l.fn.self.flat l.self.flat;
  threads : length l.self.flat.threads ≡ length l.fn.self.flat.threads;
}

abbrev pub decreases-steps : goal.decreases-steps
decreases-steps g l = all_left (length l.self.flat.threads) (tables l.self.flat).now
