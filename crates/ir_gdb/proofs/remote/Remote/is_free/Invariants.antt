use Rattle.std.proofs.Common.{◌≡◌, true}
use Rattle.ir_gdb.specs.Together.{is_free}
use Rattle.ir_gdb.proofs.remote.Remote.is_free.Given as goal

abbrev pub invariant-threads : goal.invariant-threads
invariant-threads l = is_free l.self.stub l.direction l.each l.cut l.thread l.other ≡ true
