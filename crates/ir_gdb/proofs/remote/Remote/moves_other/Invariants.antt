use Rattle.std.proofs.Common.{◌≡◌, false}
use Rattle.ir_gdb.specs.Together.{moves_other}
use Rattle.ir_gdb.proofs.remote.Remote.moves_other.Given as goal

abbrev pub invariant-threads : goal.invariant-threads
invariant-threads l = moves_other l.self.stub l.cut l.thread l.other ≡ false
