use Rattle.std.proofs.Common.{◌≡◌}
use Rattle.arrayvec.specs.ArrayVec.{array_vec_len}
use Rattle.ir_text.specs.Texts.{bytes_from}
use Rattle.ir_text.proofs.bytes.bytes_from.Given as goal

abbrev pub invariant-loop-place : goal.invariant-loop-place
invariant-loop-place l = record {
  bytes : l.bytes.items ≡ bytes_from l.code l.memory l.place l.address;
  len : array_vec_len l.bytes ≡ l.place;
}
