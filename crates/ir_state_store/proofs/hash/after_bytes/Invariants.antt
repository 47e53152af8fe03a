use Rattle.std.proofs.Common.{◌≡◌, drop}
use Rattle.ir_state_store.specs.Hashes.{after_numbers}
use Rattle.ir_state_store.proofs.hash.after_bytes.Given as goal

abbrev pub invariant-loop-byte : goal.invariant-loop-byte
invariant-loop-byte l = after_numbers l.hash (drop l.byte-index l.bytes) ≡ after_numbers l.fn.hash l.bytes
