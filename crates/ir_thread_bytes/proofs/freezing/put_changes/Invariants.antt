use Rattle.std.proofs.Common.{◌≡◌, ◌*◌, ◌++◌, drop}
use Rattle.ir_thread_bytes.specs.Frozen.{page_changes}
use Rattle.ir_thread_bytes.proofs.freezing.put_changes.Given as goal

abbrev pub invariant-loop-i : goal.invariant-loop-i
invariant-loop-i l =
    l.out.items ++ page_changes (4096 * l.i) (drop (4096 * l.i) l.start) (drop (4096 * l.i) l.thread.core.memory)
    ≡ l.fn.out.items ++ page_changes 0 l.start l.thread.core.memory
