use Rattle.std.proofs.Common.{◌≡◌, ◌≤◌, ◌+◌, ◌*◌, ◌++◌, slice_index}
use Rattle.arrayvec.specs.ArrayVec.{array_vec_len}
use Rattle.ir_text.specs.Texts.{words_text}
use Rattle.ir_text.proofs.objects.put_words.Given as goal

abbrev pub invariant-loop-index : goal.invariant-loop-index
invariant-loop-index l = record {
  text : l.text.items ≡ l.fn.text.items ++ words_text (slice_index l.object.words) l.index;
  len : array_vec_len l.text ≤ array_vec_len l.fn.text + 9 * l.index;
}
