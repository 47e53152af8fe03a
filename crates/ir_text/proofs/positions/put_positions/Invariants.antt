use Rattle.std.proofs.Common.{◌≡◌, ◌≤◌, ◌+◌, ◌*◌, ◌++◌, take}
use Rattle.arrayvec.specs.ArrayVec.{array_vec_len}
use Rattle.ir_text.specs.Texts.{positions_text}
use Rattle.ir_text.proofs.positions.put_positions.Given as goal

abbrev pub invariant-loop-position : goal.invariant-loop-position
invariant-loop-position l = record {
  text : l.text.items ≡ l.fn.text.items ++ positions_text (take l.position-index l.at);
  len : array_vec_len l.text ≤ array_vec_len l.fn.text + 2 + 21 * l.position-index;
}
