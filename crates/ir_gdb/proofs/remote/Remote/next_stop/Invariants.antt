use Rattle.std.proofs.Common.{◌≡◌, ◌≤◌, ◌-◌, suc}
use Rattle.ir_cut.specs.Positions.{EachRun, cut_of}
use Rattle.ir_command.specs.declared.command.Direction.TheVariants.{Forwards}
use Rattle.ir_debug.specs.Machine.{StopsAt}
use Rattle.ir_timeline.specs.Hand.{IsCutOf}
use Rattle.ir_gdb.specs.Conditions.{StopsUpwards, NoneStopsWithin}
use Rattle.ir_gdb.specs.Stub.{stub_spoken}
use Rattle.ir_gdb.specs.Stops.{position_of}
use Rattle.ir_gdb.proofs.remote.Remote.next_stop.Given as goal

abbrev pub decreases-hits : goal.decreases-hits
decreases-hits g l = l.to - l.position

abbrev pub invariant-hits : goal.invariant-hits
invariant-hits g l = record {
  stub : l.self.stub ≡ stub_spoken l.fn.self.stub;
  cut : IsCutOf l.self.stub.desk.fitted l.at;
  there : cut_of l.at l.thread ≡ l.position;
  above : position_of l.fn.self.stub l.thread ≤ l.position;
  within : l.position ≤ l.to;
  comes : EachRun l.fn.self.stub.desk.fitted (λ run. StopsAt run l.fn.self.stub.desk.fitted l.fn.self.stub.desk.at l.thread Forwards l.position l.at);
  none : EachRun l.fn.self.stub.desk.fitted (λ run. NoneStopsWithin (StopsUpwards run l.fn.self.stub l.thread l.watched)
      (suc (position_of l.fn.self.stub l.thread)) (suc l.position));
}
