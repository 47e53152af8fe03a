use Rattle.std.proofs.Common.{◌≡◌, ◌+◌, length}
use Rattle.ir_flat.specs.Flat.{tables}
use Rattle.ir_record.specs.Ahead.{all_threads_ahead, HasPlaces}
use Rattle.ir_record.specs.Progress.{all_left}
use Rattle.ir_record.specs.Recorders.{progress_of, CanContinue}
use Rattle.ir_record.specs.Worlds.{AreSameWorlds}
use Rattle.ir_record.proofs.Going.{WentRounds}
use Rattle.ir_record.proofs.in_order.recorder.Recorder.rounds.Given as goal

abbrev pub invariant-rounds : goal.invariant-rounds
invariant-rounds g l = record {
  went : WentRounds (length l.fn.self.guest.flat.threads) (progress_of g.W.World.answers l.fn.self)
      (progress_of g.W.World.answers l.self) l.ahead.items;
  places : HasPlaces l.ahead.items l.asks.items l.self.guest.flat;
  ready : CanContinue g.W.World.answers g.W.World.broken l.self;
  kept : AreSameWorlds g.W.World.origin l.fn.self.worlds.items l.self.worlds.items;
}

abbrev pub decreases-rounds : goal.decreases-rounds
decreases-rounds g l = all_left (length l.self.guest.flat.threads) (tables l.self.guest.flat).now + all_threads_ahead l.ahead.items
