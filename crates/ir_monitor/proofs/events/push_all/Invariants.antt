use Rattle.std.proofs.Common.{◌≡◌, ◌++◌, []}
use Rattle.ir_events.specs.Texts.{first_threads}
use Rattle.ir_monitor.proofs.events.push_all.Given as goal

abbrev pub invariant-loop-thread : goal.invariant-loop-thread
invariant-loop-thread l = l.text.items ≡ l.fn.text.items ++ first_threads l.fn.fitted l.fn.pcs [] l.thread
