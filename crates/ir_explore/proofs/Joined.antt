-- The lines of outcomes, one after the other.
use Rattle.std.proofs.Common.{◌≡◌, ℕ, suc, ◌+◌, ◌-◌, ◌≤◌, List, [], ◌∷◌, ◌++◌, inl, inr, Some, length, length-append, take, drop, ◌<◌, get_or, refl, sym, ap, ◌∙◌, subst, arith}
use Rattle.std.specs.Prelude.{slice_get, flat_map}
use Rattle.std.proofs.lemmas.List.{length-drop, take_all, append-nil}
use Rattle.std.proofs.lemmas.Grind.{flat_map-append}
use Rattle.std.proofs.lemmas.Option.{same_Some, slice_get-get_or}
use Rattle.ir_search.specs.Following.{Stay}
use Rattle.ir_search.proofs.CallerLemmas.{slice_get-push_cases, slice_get_some_below}
use Rattle.ir_state_store.specs.Nodes.{SourcedFlat}
use Rattle.ir_outcomes.specs.Explored.{ShowsState}
use Rattle.ir_outcomes.specs.declared.shown.Shown.{Shown}
use Rattle.ir_explore.specs.Texts.{Objects, IsOutcomeText, AreTexts}

-- what is left of bytes, where that is no more than a line
pub short_rest_take_32 : (bytes : List ℕ) (k : ℕ) → length bytes - k ≤ 32 → take (length bytes - k) (drop k bytes) ≡ take 32 (drop k bytes)
short_rest_take_32 bytes k few =
    let size = length-drop k bytes in
    take_all (length bytes - k) (drop k bytes) (omega (arith, size)) ∙ sym (take_all 32 (drop k bytes) (omega (arith, size, few)))

-- the lines of no outcome
pub no_outcome_no_texts : (o : Objects) (flats : List SourcedFlat) (outcomes : List Shown) → AreTexts o flats outcomes 0 []
no_outcome_no_texts o flats outcomes = record { texts = []; count = refl; each = λ i x f own at is. absurd (cc is); joined = refl }

-- those of one more
pub texts_next_outcome : (o : Objects) (flats : List SourcedFlat) (outcomes : List Shown) (many : ℕ) (text own : List ℕ) (x : Shown) (f : SourcedFlat)
    → AreTexts o flats outcomes many text → ShowsState flats outcomes many x f → IsOutcomeText o f.flat (suc many) x own
    → AreTexts o flats outcomes (many + 1) (text ++ own)
texts_next_outcome o flats outcomes many text own x f t at is = record {
  texts = t.texts ++ own ∷ [];
  count = let a = length-append t.texts (own ∷ []) in let b = t.count in omega (arith, a, b);
  each = λ i y g other there here. elim (slice_get-push_cases t.texts own i other here) [
    | inl old ↦ t.each i y g other there old
    | inr p ↦
        let place : i ≡ many = p.0 ∙ t.count in
        let shown : x ≡ y = same_Some x y (sym at.0 ∙ subst (λ z. slice_get outcomes z ≡ Some y) place there.0) in
        let state : f ≡ g = same_Some f g (sym at.1 ∙ subst (λ z. slice_get flats z.node ≡ Some g) (sym shown) there.1) in
        subst (λ z. IsOutcomeText o g.flat (suc z) y other) (sym place)
        (subst (IsOutcomeText o g.flat (suc many) y) p.1
        (subst (λ z. IsOutcomeText o g.flat (suc many) z own) shown (subst (λ (z : SourcedFlat). IsOutcomeText o z.flat (suc many) x own) state is)))
  ];
  joined = ap (λ z. z ++ own) t.joined
      ∙ sym (flat_map-append (λ z. z) t.texts (own ∷ []) ∙ ap (λ z. flat_map (λ z. z) t.texts ++ z) (append-nil own));
}

-- outcomes keep their lines while more are found
pub texts_kept_among_more : (o : Objects) (flats flats' : List SourcedFlat) (outcomes outcomes' : List Shown) (many : ℕ) (text : List ℕ)
    → AreTexts o flats outcomes many text → many ≤ length outcomes
    → ((i : ℕ) (x : Shown) → slice_get outcomes i ≡ Some x → x.node < length flats) → Stay flats flats' → Stay outcomes outcomes'
    → AreTexts o flats' outcomes' many text
texts_kept_among_more o flats flats' outcomes outcomes' many text t few nodes stay stays = record {
  texts = t.texts;
  count = t.count;
  each = λ i x f own at is.
      let less : i < length outcomes = (let a = slice_get_some_below t.texts i own is in let b = t.count in omega (arith, a, b, few)) in
      let y = get_or outcomes i x in
      let here : slice_get outcomes i ≡ Some y = slice_get-get_or outcomes i x less in
      let same : y ≡ x = same_Some y x (sym (stays i y here) ∙ at.0) in
      let node : x.node < length flats = subst (λ z. z.node < length flats) same (nodes i y here) in
      let g = get_or flats x.node f in
      let there : slice_get flats x.node ≡ Some g = slice_get-get_or flats x.node f node in
      let state : g ≡ f = same_Some g f (sym (stay x.node g there) ∙ at.1) in
      t.each i x f own (subst (λ z. slice_get outcomes i ≡ Some z) same here, subst (λ z. slice_get flats x.node ≡ Some z) state there) is;
  joined = t.joined;
}
