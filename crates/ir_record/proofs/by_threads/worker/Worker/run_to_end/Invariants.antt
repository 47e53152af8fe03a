use Rattle.std.proofs.Common.{◌≡◌, false}
use Rattle.ir_record.specs.Working.{Stays, own_steps_left}
use Rattle.ir_record.proofs.by_threads.worker.Worker.run_to_end.Given as goal

abbrev pub invariant-steps : goal.invariant-steps
invariant-steps g l = record {
  stays : Stays g.W.World.answers l.crew.table.shared.key l.fn.self l.self;
  works : g.W.World.broken l.self.world ≡ false;
  same_origin : g.W.World.origin l.self.world ≡ g.W.World.origin l.fn.self.world;
}

abbrev pub decreases-steps : goal.decreases-steps
decreases-steps g l = own_steps_left l.self.thread
