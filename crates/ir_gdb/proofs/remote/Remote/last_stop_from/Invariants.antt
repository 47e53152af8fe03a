use Rattle.std.proofs.Common.{◌≡◌, ◌≤◌, ◌-◌, suc}
use Rattle.ir_cut.specs.Positions.{EachRun, cut_of}
use Rattle.ir_timeline.specs.Hand.{IsCutOf}
use Rattle.ir_gdb.specs.Conditions.{StopsDownwards}
use Rattle.ir_gdb.specs.Seeking.{IsLastStopFrom}
use Rattle.ir_gdb.specs.Stub.{stub_spoken}
use Rattle.ir_gdb.proofs.remote.Remote.last_stop_from.Given as goal

abbrev pub decreases-hits : goal.decreases-hits
decreases-hits g l = l.to - l.position

abbrev pub invariant-hits : goal.invariant-hits
invariant-hits g l = record {
  stub : l.self.stub ≡ stub_spoken l.fn.self.stub;
  cut : IsCutOf l.self.stub.desk.fitted l.at;
  there : cut_of l.at l.thread ≡ l.position;
  above : l.low ≤ l.position;
  within : l.position ≤ l.to;
  last : EachRun l.fn.self.stub.desk.fitted (λ run. IsLastStopFrom (StopsDownwards run l.fn.self.stub l.thread l.watched)
      (suc l.low) (suc l.position) l.found);
}
