use Rattle.std.proofs.Common.{◌≡◌, ◌≤◌, ◌+◌, ◌*◌, ◌++◌, take}
use Rattle.std.specs.Prelude.{codes, decimal, flat_map}
use Rattle.arrayvec.specs.ArrayVec.{array_vec_len}
use Rattle.ir_text.proofs.objects.put_others.Given as goal

abbrev pub invariant-loop-number : goal.invariant-loop-number
invariant-loop-number l = record {
  text : l.text.items ≡ l.fn.text.items ++ flat_map (λ m. codes "," ++ decimal m) (take l.number-index l.numbers);
  len : array_vec_len l.text ≤ array_vec_len l.fn.text + 21 * l.number-index;
}
