use Rattle.std.proofs.Common.{◌≡◌, ◌*◌, length, drop}
use Rattle.ir_mach.specs.Core.{memory_size}
use Rattle.ir_thread_bytes.specs.Thawed.{changed_pages}
use Rattle.ir_thread_bytes.proofs.thawing.change.Given as goal

abbrev pub invariant-loop-k : goal.invariant-loop-k
invariant-loop-k l = record {
  size : length l.memory.items ≡ memory_size;
  same : changed_pages l.memory.items (drop (3 * l.k) l.changes) ≡ changed_pages l.fn.memory.items l.changes;
}
