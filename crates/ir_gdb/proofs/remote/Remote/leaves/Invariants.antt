use Rattle.std.proofs.Common.{◌≡◌, ◌≤◌, ◌-◌, suc}
use Rattle.ir_cut.specs.Positions.{EachRun, cut_of, last_of}
use Rattle.ir_timeline.specs.Hand.{IsCutOf}
use Rattle.ir_gdb.specs.Stub.{stub_spoken}
use Rattle.ir_gdb.specs.Stops.{position_of, StaysWithin}
use Rattle.ir_gdb.proofs.remote.Remote.leaves.Given as goal

abbrev pub decreases-steps : goal.decreases-steps
decreases-steps g l = l.last - l.position

abbrev pub invariant-steps : goal.invariant-steps
invariant-steps g l = record {
  stub : l.self.stub ≡ stub_spoken l.fn.self.stub;
  last : l.last ≡ last_of l.fn.self.stub.desk.fitted l.thread;
  above : position_of l.fn.self.stub l.thread ≤ l.position;
  within : l.position ≤ l.last;
  cut : IsCutOf l.self.stub.desk.fitted l.at;
  there : cut_of l.at l.thread ≡ l.position;
  stays : EachRun l.fn.self.stub.desk.fitted (λ run. StaysWithin run l.fn.self.stub l.thread l.low l.high (position_of l.fn.self.stub l.thread) (suc l.position));
}
