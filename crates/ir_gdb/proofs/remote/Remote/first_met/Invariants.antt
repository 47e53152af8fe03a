use Rattle.ir_cut.specs.Positions.{EachRun}
use Rattle.ir_gdb.specs.Together.{NoneMet}
use Rattle.ir_gdb.proofs.remote.Remote.first_met.Given as goal

abbrev pub invariant-threads : goal.invariant-threads
invariant-threads l = EachRun l.self.stub.desk.fitted (λ run. NoneMet run l.self.stub l.direction l.each l.cut l.thread l.other)
