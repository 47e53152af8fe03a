use Rattle.std.proofs.Common.{◌≡◌, ℕ, ◌+◌, ◌-◌, ◌<◌, ◌≤◌, inl, inr, ◌⊎◌, ◌∙◌, arith}
use Rattle.std.proofs.lemmas.Bool.{cases_eq}
use Rattle.ir_liveness.specs.Marks.{places_of_word}
use Rattle.ir_liveness.proofs.Swept.{swept_further, swept_over_fewer}
use Rattle.ir_liveness.proofs.sweep.sweep.Goals as goal
use Rattle.ir_liveness.proofs.sweep.sweep.Goals.{then-sweep_word, else-sweep_word}

last_words_cases : (words k w p : ℕ) → k < words → (words ≤ w + (k + 1)) × (w < words) × (p < places_of_word)
    → ((words ≤ w + k) × (w < words) × (p < places_of_word)) ⊎ ((w ≡ words - 1 - k) × (p < places_of_word))
last_words_cases words k w p more (from, less, few) = elim (cases_eq w (words - 1 - k)) [
  | inl is ↦ inr (is, few)
  | inr other ↦ inl (omega arith, less, few)
]

pub loop-k-preserved : goal.loop-k-preserved
loop-k-preserved c = record {
  size = c.sweep_word.ensures.size ∙ c.loop-k.invariant.size;
  swept =
      let k = c.loop-k.k in
      let words = c.args.words in
      swept_further c.args.code.now c.args.marks.now c.loop-k.marks c.sweep_word.new.marks c.loop-k.changed c.sweep_word.result c.if-sweep_word.changed
      (λ w p. (words ≤ w + k) × (w < words) × (p < places_of_word)) (λ w p. (w ≡ words - 1 - k) × (p < places_of_word))
      (λ w p. (words ≤ w + (k + 1)) × (w < words) × (p < places_of_word)) c.loop-k.invariant.swept c.sweep_word.ensures.swept
      (λ w p is. last_words_cases words k w p c.loop-k-test.true is)
      (elim c.if-sweep_word.branch [
        | then-sweep_word w ↦ inl (w.if-sweep_word.true, w.changed-is)
        | else-sweep_word w ↦ inr (w.if-sweep_word.false, w.changed-is)
      ]);
}

pub returns-clause-swept : goal.returns-clause-swept
returns-clause-swept c =
    let k = c.loop-k.k in
    let words = c.args.words in
    let all = c.loop-k-test.false in
    swept_over_fewer c.args.code.now c.args.marks.now c.loop-k.marks c.loop-k.changed
    (λ w p. (words ≤ w + k) × (w < words) × (p < places_of_word)) (λ w p. (w < words) × (p < places_of_word)) c.loop-k.invariant.swept
    (λ w p is. (omega arith, is.0, is.1))
