use Rattle.std.proofs.Common.{◌≡◌, drop}
use Rattle.ir_names.specs.Naming.{after_bytes}
use Rattle.ir_names.proofs.reached.Reached.take.Given as goal

abbrev pub invariant-loop-byte : goal.invariant-loop-byte
invariant-loop-byte l = after_bytes l.self (drop l.byte-index l.bytes) ≡ after_bytes l.fn.self l.bytes
