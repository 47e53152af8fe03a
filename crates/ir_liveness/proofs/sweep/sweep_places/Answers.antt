use Rattle.std.proofs.Common.{◌≡◌, ℕ, ◌+◌, ◌<◌, inl, inr, ◌⊎◌, ◌∙◌, arith}
use Rattle.std.proofs.lemmas.Bool.{cases_eq}
use Rattle.ir_liveness.specs.Marks.{places_of_word}
use Rattle.ir_liveness.proofs.Swept.{swept_further, swept_over_fewer}
use Rattle.ir_liveness.proofs.sweep.sweep_places.Goals as goal
use Rattle.ir_liveness.proofs.sweep.sweep_places.Goals.{then-mark_if_seen, else-mark_if_seen}

below_next_cases : (word place w p : ℕ) → (w ≡ word) × (p < place + 1) → ((w ≡ word) × (p < place)) ⊎ ((w ≡ word) × (p ≡ place))
below_next_cases word place w p (same, less) = elim (cases_eq p place) [
  | inl is ↦ inr (same, is)
  | inr other ↦ inl (same, omega arith)
]

pub loop-place-preserved : goal.loop-place-preserved
loop-place-preserved c = record {
  size = c.mark_if_seen.ensures.size ∙ c.loop-place.invariant.size;
  swept = λ code at.
      let place = c.loop-place.place in
      let word = c.args.word in
      swept_further code c.args.marks.now c.loop-place.marks c.mark_if_seen.new.marks c.loop-place.any c.mark_if_seen.result c.if-mark_if_seen.any
      (λ w p. (w ≡ word) × (p < place)) (λ w p. (w ≡ word) × (p ≡ place)) (λ w p. (w ≡ word) × (p < place + 1))
      (c.loop-place.invariant.swept code at) (c.mark_if_seen.ensures.swept code at) (below_next_cases word place)
      (elim c.if-mark_if_seen.branch [
        | then-mark_if_seen w ↦ inl (w.if-mark_if_seen.true, w.any-is)
        | else-mark_if_seen w ↦ inr (w.if-mark_if_seen.false, w.any-is)
      ]);
}

pub returns-clause-swept : goal.returns-clause-swept
returns-clause-swept c = λ code at.
    let all = c.loop-place-test.false in
    swept_over_fewer code c.args.marks.now c.loop-place.marks c.loop-place.any (λ w p. (w ≡ c.args.word) × (p < c.loop-place.place))
    (λ w p. (w ≡ c.args.word) × (p < places_of_word)) (c.loop-place.invariant.swept code at)
    (λ w p is. (is.0, let less = is.1 in omega arith))
