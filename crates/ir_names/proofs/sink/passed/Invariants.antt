use Rattle.std.proofs.Common.{◌≡◌, ◌+◌, ◌≤◌, drop}
use Rattle.ir_names.specs.Taken.{bytes_before_name}
use Rattle.ir_names.proofs.sink.passed.Given as goal

-- those so far, and those of the rest
abbrev pub invariant-loop-byte : goal.invariant-loop-byte
invariant-loop-byte l = record {
  passes : l.count + bytes_before_name l.names l.reached (drop l.byte-index l.bytes) ≡ bytes_before_name l.names l.start l.bytes;
  small : l.count ≤ l.byte-index;
}
