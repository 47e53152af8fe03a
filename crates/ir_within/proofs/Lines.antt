-- The lines of outcomes that are outside, one after the other.
use Rattle.std.proofs.Common.{◌≡◌, ℕ, suc, ◌+◌, Bool, true, false, List, [], ◌∷◌, ◌++◌, Some, length-append, append-nil, refl, sym, ap, ◌∙◌, subst, arith, inl, inr}
use Rattle.std.specs.Prelude.{slice_get, flat_map}
use Rattle.std.proofs.lemmas.Grind.{flat_map-append}
use Rattle.std.proofs.lemmas.Option.{same_Some}
use Rattle.ir_lemmas.proofs.CallerLemmas.{slice_get-push_cases}
use Rattle.ir_explore.specs.Texts.{Objects, Known, IsOutcomeText}
use Rattle.ir_outcomes.specs.Explored.{ShowsState}
use Rattle.ir_outcomes.specs.declared.shown.Shown.{Shown}
use Rattle.ir_state_store.specs.Nodes.{SourcedFlat}
use Rattle.ir_within.specs.Within.{AreMarkedTexts}

pub no_marked_texts : (o : Objects) (k : Known) (outside : List Bool) → AreMarkedTexts o k outside 0 []
no_marked_texts o k outside = record {
  texts = [];
  count = refl;
  each = λ i x s own at is. absurd (cc is);
  others = λ i own is. absurd (cc is);
  joined = refl;
}

-- one more that is outside
pub marked_texts_step : (o : Objects) (k : Known) (outside : List Bool) (many : ℕ) (text own : List ℕ) (x : Shown) (s : SourcedFlat)
    → AreMarkedTexts o k outside many text → ShowsState k.flats k.outcomes many x s → slice_get outside many ≡ Some true
    → IsOutcomeText o s.flat (suc many) x own → AreMarkedTexts o k outside (many + 1) (text ++ own)
marked_texts_step o k outside many text own x s t at mark is = record {
  texts = t.texts ++ own ∷ [];
  count = let a = length-append t.texts (own ∷ []) in let b = t.count in omega (arith, a, b);
  each = λ i y g other there here marked. elim (slice_get-push_cases t.texts own i other here) [
    | inl old ↦ t.each i y g other there old marked
    | inr p ↦
        let place : i ≡ many = p.0 ∙ t.count in
        let shown : x ≡ y = same_Some x y (sym at.0 ∙ subst (λ z. slice_get k.outcomes z ≡ Some y) place there.0) in
        let state : s ≡ g = same_Some s g (sym at.1 ∙ subst (λ (z : Shown). slice_get k.flats z.node ≡ Some g) (sym shown) there.1) in
        subst (λ z. IsOutcomeText o g.flat (suc z) y other) (sym place)
        (subst (IsOutcomeText o g.flat (suc many) y) p.1
        (subst (λ z. IsOutcomeText o g.flat (suc many) z own) shown (subst (λ (z : SourcedFlat). IsOutcomeText o z.flat (suc many) x own) state is)))
  ];
  others = λ i other here marked. elim (slice_get-push_cases t.texts own i other here) [
    | inl old ↦ t.others i other old marked
    | inr p ↦ absurd (cc (sym mark ∙ subst (λ z. slice_get outside z ≡ Some false) (p.0 ∙ t.count) marked))
  ];
  joined = ap (λ z. z ++ own) t.joined
      ∙ sym (flat_map-append (λ z. z) t.texts (own ∷ []) ∙ ap (λ z. flat_map (λ z. z) t.texts ++ z) (append-nil own));
}

-- one more that isn't
pub inside_texts_step : (o : Objects) (k : Known) (outside : List Bool) (many : ℕ) (text : List ℕ) → AreMarkedTexts o k outside many text
    → slice_get outside many ≡ Some false → AreMarkedTexts o k outside (many + 1) text
inside_texts_step o k outside many text t mark = record {
  texts = t.texts ++ [] ∷ [];
  count = let a = length-append t.texts ([] ∷ []) in let b = t.count in omega (arith, a, b);
  each = λ i y g other there here marked. elim (slice_get-push_cases t.texts [] i other here) [
    | inl old ↦ t.each i y g other there old marked
    | inr p ↦ absurd (cc (sym mark ∙ subst (λ z. slice_get outside z ≡ Some true) (p.0 ∙ t.count) marked))
  ];
  others = λ i other here marked. elim (slice_get-push_cases t.texts [] i other here) [
    | inl old ↦ t.others i other old marked
    | inr p ↦ sym p.1
  ];
  joined = t.joined ∙ sym (flat_map-append (λ z. z) t.texts ([] ∷ []) ∙ append-nil (flat_map (λ z. z) t.texts));
}
