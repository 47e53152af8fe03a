use Rattle.std.proofs.Common.{rules, ◌+◌, ◌∙◌, ◌++◌, List, ℕ, [], ◌∷◌, sym, ap}
use Rattle.ir_text.specs.Texts.{bytes_from}
use Rattle.ir_text.proofs.BytesFrom.{bytes_from_step, bytes_from_zero}
use Rattle.ir_text.proofs.bytes.bytes_from.Goals as goal

pub loop-place-init : goal.loop-place-init
loop-place-init c = record {
  bytes = c.new-bytes.ensures ∙ sym (bytes_from_zero c.args.code.now c.args.memory.now c.args.address);
  len = search rules;
}

pub loop-place-preserved : goal.loop-place-preserved
loop-place-preserved c = record {
  bytes = c.append.ensures.text
      ∙ ap (λ (xs : List ℕ). xs ++ c.byte.result ∷ []) c.loop-place.invariant.bytes
      ∙ ap (λ (b : ℕ). bytes_from c.args.code.now c.args.memory.now c.loop-place.place c.args.address ++ b ∷ []) c.byte.ensures
      ∙ sym (bytes_from_step c.args.code.now c.args.memory.now c.loop-place.place c.args.address);
  len = c.append.ensures.len ∙ ap (λ (n : ℕ). n + 1) c.loop-place.invariant.len;
}
