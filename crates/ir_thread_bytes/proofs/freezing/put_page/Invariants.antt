use Rattle.std.proofs.Common.{◌≡◌, ◌+◌, ◌++◌, drop}
use Rattle.ir_thread_bytes.specs.Frozen.{page_changes}
use Rattle.ir_thread_bytes.proofs.freezing.put_page.Given as goal

abbrev pub invariant-loop-i : goal.invariant-loop-i
invariant-loop-i l =
    l.out.items ++ page_changes (l.first + l.i) (drop l.i l.old) (drop l.i l.new) ≡ l.fn.out.items ++ page_changes l.first l.old l.new
