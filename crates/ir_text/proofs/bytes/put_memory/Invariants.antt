use Rattle.std.proofs.Common.{◌≡◌, ◌≤◌, ◌<◌, ◌^◌, ◌+◌, ◌*◌, ◌++◌, length}
use Rattle.arrayvec.specs.ArrayVec.{array_vec_len}
use Rattle.ir_text.specs.Texts.{memory_text}
use Rattle.ir_text.proofs.bytes.put_memory.Given as goal

-- what is put, and what is left to be put, are all
abbrev pub invariant-loop-rest : goal.invariant-loop-rest
invariant-loop-rest l = record {
  text : l.text.items ++ memory_text l.at l.rest ≡ l.fn.text.items ++ memory_text l.fn.address l.bytes;
  more : 0 < length l.rest → (16 * array_vec_len l.text + 43 * length l.rest ≤ 16 * 200 + 43 * 256) × (l.at + length l.rest ≤ 2 ^ 31 + 256);
}

abbrev pub decreases-loop-rest : goal.decreases-loop-rest
decreases-loop-rest l = length l.rest
