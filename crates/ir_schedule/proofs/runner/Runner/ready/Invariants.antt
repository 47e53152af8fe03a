use Rattle.std.proofs.Common.{◌≤◌, length}
use Rattle.ir_schedule.specs.Schedules.{AreReady}
use Rattle.ir_flat.specs.Flat.{tables, machine}
use Rattle.ir_schedule.proofs.runner.Runner.ready.Given as goal

abbrev pub invariant-threads : goal.invariant-threads
invariant-threads g l = record {
  are : AreReady (machine l.self.flat) (tables l.self.flat) l.t l.ready.items;
  few : length l.ready.items ≤ l.t;
}
