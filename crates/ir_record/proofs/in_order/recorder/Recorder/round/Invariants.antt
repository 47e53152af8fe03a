use Rattle.std.proofs.Common.{◌≡◌, length}
use Rattle.std.specs.List.{range_with_len}
use Rattle.ir_thread.specs.State as thread
use Rattle.ir_flat.specs.Flat.{tables, machine}
use Rattle.ir_runs.specs.Run.{State}
use Rattle.ir_record.specs.Ahead.{IsThreadAhead, HasPlaces, WentIf}
use Rattle.ir_record.specs.Recorders.{progress_of, CanContinue}
use Rattle.ir_record.specs.Worlds.{AreSameWorlds}
use Rattle.ir_record.proofs.RoundResults.{RoundAfterTurns}
use Rattle.ir_record.proofs.in_order.recorder.Recorder.round.Given as goal

abbrev pub invariant-loop-t : goal.invariant-loop-t
invariant-loop-t g l = record {
  went : (s : State thread.ThreadState) → IsThreadAhead (machine l.fn.self.guest.flat) l.fn.ahead.items s (tables l.fn.self.guest.flat)
      → WentIf l.round.moved (range_with_len 0 l.t) s (progress_of g.W.World.answers l.fn.self)
      l.fn.ahead.items (progress_of g.W.World.answers l.self) l.ahead.items;
  so_far : RoundAfterTurns l.t l.round l.ahead.items l.self.guest.flat;
  places : HasPlaces l.ahead.items l.asks.items l.self.guest.flat;
  threads : length l.self.guest.flat.threads ≡ length l.fn.self.guest.flat.threads;
  ready : CanContinue g.W.World.answers g.W.World.broken l.self;
  kept : AreSameWorlds g.W.World.origin l.fn.self.worlds.items l.self.worlds.items;
}
