use Rattle.ir_cut.specs.Positions.{EachRun}
use Rattle.ir_gdb.specs.Together.{NoneStops}
use Rattle.ir_gdb.proofs.remote.Remote.first_stop.Given as goal

abbrev pub invariant-threads : goal.invariant-threads
invariant-threads l = EachRun l.self.stub.desk.fitted (λ run. NoneStops run l.self.stub l.direction l.each l.thread l.other)
