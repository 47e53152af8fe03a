use Rattle.std.proofs.Common.{◌≡◌, drop}
use Rattle.ir_state_store.specs.Hashes.{empty_hash, after_numbers}
use Rattle.ir_state_store.specs.Nodes.{looks_in}
use Rattle.ir_state_store.proofs.compare.looks_hash.Given as goal

abbrev pub invariant-loop-n : goal.invariant-loop-n
invariant-loop-n l = after_numbers l.hash (looks_in l.table.looks (drop l.n-index l.threads)) ≡ after_numbers empty_hash (looks_in l.table.looks l.threads)
