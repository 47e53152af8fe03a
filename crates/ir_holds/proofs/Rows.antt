-- The rows of boxes.
use Rattle.std.proofs.Common.{◌≡◌, ℕ, zero, suc, ◌+◌, ◌≤◌, inl, inr, Some, List, [], ◌∷◌, ◌++◌, length, refl, sym, ap, ◌∙◌, subst, arith}
use Rattle.std.specs.List.{slice_get}
use Rattle.std.proofs.lemmas.List.{length_push}
use Rattle.std.proofs.lemmas.Option.{none-some, same_Some, slice_get_within}
use Rattle.ir_lemmas.proofs.CallerLemmas.{slice_get-push_cases}
use Rattle.ir_holds.specs.Spans.{IsTaken, IsFreeRow, AreRows}
use Rattle.ir_holds.specs.declared.span.Span.{Span}

-- no box before box n has a row from n on
pub own_row_is_not_taken : (spans : List Span) (rows : List ℕ) (n : ℕ) (own : Span) → ((m y : ℕ) → slice_get rows m ≡ Some y → y ≤ m)
    → IsTaken spans rows n own n → ⊥
own_row_is_not_taken spans rows n own low taken = let before = taken.before in let small = low taken.number n taken.row in omega (arith, before, small)

-- rows so far
pub record AreRowsTo (spans : List Span) (n : ℕ) (rows : List ℕ) : Type 0 where
  pub size : length rows ≡ n
  pub each : (k : ℕ) (own : Span) (y : ℕ) → slice_get spans k ≡ Some own → slice_get rows k ≡ Some y → IsFreeRow spans rows k own y
  pub low : (k y : ℕ) → slice_get rows k ≡ Some y → y ≤ k

pub no_boxes_no_rows : (spans : List Span) → AreRowsTo spans 0 []
no_boxes_no_rows spans = record {
  size = refl;
  each = λ k own y at row. absurd (none-some y row);
  low = λ k y row. absurd (none-some y row);
}

pub rows_of_all_boxes : (spans : List Span) (n : ℕ) (rows : List ℕ) → AreRowsTo spans n rows → n ≡ length spans → AreRows spans rows
rows_of_all_boxes spans n rows h all = record { size = h.size ∙ all; each = h.each }

-- whether a row is taken is told by the boxes before n alone
pub taken_if_in_longer_rows : (spans : List Span) (rows : List ℕ) (z : ℕ) (k : ℕ) (own : Span) (y : ℕ) → k ≤ length rows → IsTaken spans (rows ++ z ∷ []) k own y
    → IsTaken spans rows k own y
taken_if_in_longer_rows spans rows z k own y within taken = record {
  number = taken.number;
  other = taken.other;
  before = taken.before;
  there = taken.there;
  over = taken.over;
  row = elim (slice_get-push_cases rows z taken.number y taken.row) [
    | inl old ↦ old
    | inr last ↦ let less = taken.before in let same = last.0 in absurd (omega (arith, less, same, within))
  ];
}

pub taken_in_longer_rows : (spans : List Span) (rows : List ℕ) (z : ℕ) (k : ℕ) (own : Span) (y : ℕ) → IsTaken spans rows k own y
    → IsTaken spans (rows ++ z ∷ []) k own y
taken_in_longer_rows spans rows z k own y taken = record {
  number = taken.number;
  other = taken.other;
  before = taken.before;
  there = taken.there;
  over = taken.over;
  row = get_in_longer rows z taken.number y taken.row;
}
  where
    get_in_longer : (xs : List ℕ) (z k y : ℕ) → slice_get xs k ≡ Some y → slice_get (xs ++ z ∷ []) k ≡ Some y
    get_in_longer [] z k y is = absurd (none-some y is)
    get_in_longer (x ∷ xs) z zero y is = is
    get_in_longer (x ∷ xs) z (suc k) y is = get_in_longer xs z k y is

pub free_row_in_longer_rows : (spans : List Span) (rows : List ℕ) (z : ℕ) (k : ℕ) (own : Span) (y : ℕ) → k ≤ length rows → IsFreeRow spans rows k own y
    → IsFreeRow spans (rows ++ z ∷ []) k own y
free_row_in_longer_rows spans rows z k own y within h = record {
  free = λ taken. h.free (taken_if_in_longer_rows spans rows z k own y within taken);
  least = λ w less. taken_in_longer_rows spans rows z k own w (h.least w less);
}

pub rows_with_next_box : (spans : List Span) (n : ℕ) (rows : List ℕ) (own : Span) (y : ℕ) → AreRowsTo spans n rows → slice_get spans n ≡ Some own
    → IsFreeRow spans rows (length rows) own y → y ≤ length rows → AreRowsTo spans (n + 1) (rows ++ y ∷ [])
rows_with_next_box spans n rows own y h at free small = record {
  size = length_push rows y ∙ (let s = h.size in omega (arith, s));
  each = λ k other z there row. elim (slice_get-push_cases rows y k z row) [
    | inl before ↦
        free_row_in_longer_rows spans rows y k other z (let less = slice_get_within rows k z before in omega (arith, less)) (h.each k other z there before)
    | inr last ↦
        let here : slice_get spans n ≡ Some other = ap (slice_get spans) (sym (last.0 ∙ h.size)) ∙ there in
        let whole : IsFreeRow spans (rows ++ y ∷ []) (length rows) own y = free_row_in_longer_rows spans rows y (length rows) own y (omega arith) free in
        subst (λ z. IsFreeRow spans (rows ++ y ∷ []) k other z) last.1
        (subst (λ m. IsFreeRow spans (rows ++ y ∷ []) m other y) (sym last.0)
        (subst (λ (x : Span). IsFreeRow spans (rows ++ y ∷ []) (length rows) x y) (same_Some own other (sym at ∙ here)) whole))
  ];
  low = λ k z row. elim (slice_get-push_cases rows y k z row) [
    | inl before ↦ h.low k z before
    | inr last ↦ let number = last.0 in let same = last.1 in omega (arith, number, same, small)
  ];
}
