use Rattle.std.proofs.Common.{◌≡◌}
use Rattle.ir_cut.specs.Positions.{EachRun}
use Rattle.ir_gdb.specs.Stub.{stub_spoken}
use Rattle.ir_gdb.specs.Over.{NoneHasHit}
use Rattle.ir_gdb.proofs.remote.Remote.other_has_hit.Given as goal

abbrev pub invariant-threads : goal.invariant-threads
invariant-threads g l = record {
  stub : l.self.stub ≡ stub_spoken l.fn.self.stub;
  none : EachRun l.fn.self.stub.desk.fitted (λ run. NoneHasHit run l.fn.self.stub l.pc l.cut l.thread l.other);
}
