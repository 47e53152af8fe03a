-- The greatest of the heights before a place.
use Rattle.std.proofs.Common.{◌≡◌, ℕ, ◌+◌, ◌≤◌, inl, inr, max, Some, List, [], ◌∷◌, ◌++◌, length, true, false, refl, sym, ap, ◌∙◌, subst, arith, ltb}
use Rattle.std.specs.List.{slice_get}
use Rattle.std.specs.List.Sorted.{IsPartitionPoint}
use Rattle.std.proofs.lemmas.Bool.{cases_lt, ltb-true, ltb-false}
use Rattle.std.proofs.lemmas.Option.{none-some, same_Some, slice_get_within, slice_get-get_or, get_or_from_slice_get}
use Rattle.ir_lemmas.proofs.CallerLemmas.{slice_get-push_cases}
use Rattle.ir_holds.specs.Held.{IsLeastFrom}
use Rattle.ir_holds.specs.Heights.{IsAmongFirst, IsLower, AreTops}
use Rattle.ir_holds.specs.declared.heights.Height.{Height}

-- ---- the first heights

pub top_of_none_is_zero : (each : List Height) → IsLeastFrom 0 (IsAmongFirst each 0) 0
top_of_none_is_zero each = record { start = omega arith; above = λ z among. let less = among.below in absurd (omega (arith, less)); least = λ w low all. low }

pub top_with_next : (each : List Height) (n y top : ℕ) (x : Height) → slice_get each n ≡ Some x → IsLeastFrom 0 (IsAmongFirst each n) y → top ≡ max x.top y
    → IsLeastFrom 0 (IsAmongFirst each (n + 1)) top
top_with_next each n y top x there h is = record {
  start = omega arith;
  above = λ z among. elim (cases_lt among.number n) [
    | inl before ↦
        let old = h.above z (record { number = among.number; height = among.height; below = before; there = among.there; top = among.top }) in
        omega (arith, old, is)
    | inr past ↦
        let less = among.below in
        let here : among.number ≡ n = omega (arith, less, past) in
        let same : among.height ≡ x = same_Some among.height x (sym among.there ∙ ap (slice_get each) here ∙ there) in
        let tall : x.top ≡ z = ap (λ (q : Height). q.top) (sym same) ∙ among.top in
        omega (arith, tall, is)
  ];
  least = λ w low all.
      let own = all x.top (record { number = n; height = x; below = omega arith; there = there; top = refl }) in
      let old = h.least w low (λ z among. all z (record {
        number = among.number;
        height = among.height;
        below = (let less = among.below in omega (arith, less));
        there = among.there;
        top = among.top;
      })) in
      omega (arith, own, old, is);
}

pub tops_of_none : (each : List Height) (tops : List ℕ) → tops ≡ 0 ∷ [] → AreTops each tops
tops_of_none each tops is = λ n y at. elim (slice_get-push_cases [] 0 n y (subst (λ (xs : List ℕ). slice_get xs n ≡ Some y) is at)) [
  | inl old ↦ absurd (none-some y old)
  | inr last ↦ subst (IsLeastFrom 0 (IsAmongFirst each n)) last.1 (subst (λ k. IsLeastFrom 0 (IsAmongFirst each k) 0) (sym last.0) (top_of_none_is_zero each))
]

pub tops_after_next : (each : List Height) (tops more : List ℕ) (n top : ℕ) → AreTops each tops → length tops ≡ n → IsLeastFrom 0 (IsAmongFirst each n) top
    → more ≡ tops ++ top ∷ [] → AreTops each more
tops_after_next each tops more n top h size next is = λ k y at.
    elim (slice_get-push_cases tops top k y (subst (λ (xs : List ℕ). slice_get xs k ≡ Some y) is at)) [
      | inl old ↦ h k y old
      | inr last ↦ subst (IsLeastFrom 0 (IsAmongFirst each k)) last.1
          (subst (λ m. IsLeastFrom 0 (IsAmongFirst each m) top) (sym (last.0 ∙ size)) next)
    ]

-- ---- heights by rising place

-- the first n heights are those before a place
pub top_before_partition : (each : List Height) (n at y : ℕ) → IsPartitionPoint (λ (x : Height). ltb x.at at ≡ true) (λ x. ltb x.at at ≡ false) each n
    → n ≤ length each → IsLeastFrom 0 (IsAmongFirst each n) y → IsLeastFrom 0 (IsLower each at) y
top_before_partition each n at y parts within h = record {
  start = omega arith;
  above = λ z before. elim (cases_lt before.there.0 n) [
    | inl less ↦ h.above z (record {
      number = before.there.0;
      height = before.height;
      below = less;
      there = slice_get-get_or each before.there.0 before.height before.there.1 ∙ ap Some before.there.2;
      top = before.top;
    })
    | inr past ↦
        let not_less = ltb-false _ at (parts.1 before.there.0 before.height past before.there.1) in
        let same = ap (λ (x : Height). x.at) before.there.2 in
        let less = before.before in
        absurd (omega (arith, not_less, same, less))
  ];
  least = λ w low all. h.least w low (λ z among. all z (record {
    height = among.height;
    there = (among.number, slice_get_within each among.number among.height among.there, get_or_from_slice_get each among.number among.height among.height among.there);
    before =
        (let less = ltb-true _ at (parts.0 among.number among.height (omega arith) among.below) in
        let same = ap (λ (x : Height). x.at) (get_or_from_slice_get each among.number among.height among.height among.there) in
        omega (arith, less, same));
    top = among.top;
  }));
}
