use Rattle.std.proofs.Common.{◌≡◌, ◌++◌, []}
use Rattle.ir_events.specs.Texts.{first_event_lines}
use Rattle.ir_monitor.proofs.events.push_thread.Given as goal

abbrev pub invariant-loop-number : goal.invariant-loop-number
invariant-loop-number l = l.text.items ≡ l.fn.text.items ++ first_event_lines l.fn.fitted l.fn.pcs [] l.fn.thread l.number
