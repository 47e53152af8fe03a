use Rattle.std.proofs.Common.{◌≡◌, ◌++◌}
use Rattle.ir_explore.specs.Lines.{byte_lines}
use Rattle.ir_explore.proofs.bytes.put_bytes.Given as goal

abbrev pub invariant-loop-number : goal.invariant-loop-number
invariant-loop-number l = l.text.items ≡ l.fn.text.items ++ byte_lines l.bytes l.number
