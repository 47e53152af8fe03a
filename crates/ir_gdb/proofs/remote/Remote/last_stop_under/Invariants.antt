use Rattle.std.proofs.Common.{◌≡◌, ◌<◌, suc}
use Rattle.ir_cut.specs.Positions.{EachRun, cut_of}
use Rattle.ir_command.specs.declared.command.Direction.TheVariants.{Backwards}
use Rattle.ir_debug.specs.Machine.{StopsAt}
use Rattle.ir_timeline.specs.Hand.{IsCutOf}
use Rattle.ir_gdb.specs.Conditions.{StopsDownwards, NoneStopsWithin}
use Rattle.ir_gdb.specs.Stub.{stub_spoken}
use Rattle.ir_gdb.specs.Stops.{position_of}
use Rattle.ir_gdb.proofs.remote.Remote.last_stop_under.Given as goal

abbrev pub decreases-stretches : goal.decreases-stretches
decreases-stretches g l = l.to

abbrev pub invariant-stretches : goal.invariant-stretches
invariant-stretches g l = record {
  stub : l.self.stub ≡ stub_spoken l.fn.self.stub;
  cut : IsCutOf l.self.stub.desk.fitted l.top;
  there : cut_of l.top l.thread ≡ l.to;
  within : l.to < position_of l.fn.self.stub l.thread;
  comes : EachRun l.fn.self.stub.desk.fitted (λ run. StopsAt run l.fn.self.stub.desk.fitted l.fn.self.stub.desk.at l.thread Backwards l.to l.top);
  none : EachRun l.fn.self.stub.desk.fitted (λ run. NoneStopsWithin (StopsDownwards run l.fn.self.stub l.thread l.watched)
      (suc l.to) (position_of l.fn.self.stub l.thread));
}
