use Rattle.std.proofs.Common.{◌≡◌, ◌++◌}
use Rattle.ir_picture.specs.Chrome.{all_threads}
use Rattle.ir_picture.proofs.chrome.push_threads.Given as goal

abbrev pub invariant-loop-thread : goal.invariant-loop-thread
invariant-loop-thread l = l.text.items ≡ l.fn.text.items ++ all_threads l.thread
