use Rattle.std.proofs.Common.{◌≡◌, ◌++◌, map, drop}
use Rattle.ir_thread_bytes.specs.Frozen.{held_byte}
use Rattle.ir_thread_bytes.proofs.freezing.put_held.Given as goal

abbrev pub invariant-loop-entry : goal.invariant-loop-entry
invariant-loop-entry l = l.out.items ++ map held_byte (drop l.entry-index l.held) ≡ l.fn.out.items ++ map held_byte l.held
