-- Which boxes are over the next one.
use Rattle.std.proofs.Common.{◌≡◌, ℕ, ◌+◌, ◌<◌, ◌≤◌, inl, inr, Some, List, [], ◌∷◌, ◌++◌, length, sym, ap, ◌∙◌, subst, arith}
use Rattle.std.specs.List.{slice_get, Contains}
use Rattle.std.proofs.lemmas.Bool.{cases_lt}
use Rattle.std.proofs.lemmas.Option.{same_Some, slice_get_within, slice_get-get_or, get_or_from_slice_get}
use Rattle.std.proofs.lemmas.List.Elements.{Contains-push, Contains-push_cases, Contains-append_left}
use Rattle.ir_holds.specs.Spans.{IsOverSpan, IsTaken}
use Rattle.ir_holds.specs.Open.{AreRising, IsLate, AreOfFirst, HasAllOver, KeepsLate}
use Rattle.ir_holds.specs.declared.span.Span.{Span}

-- ---- boxes that haven't ended

-- the numbers of all of the first n boxes that are over a box from box m on
abbrev pub HasAllLater : List Span → ℕ → ℕ → List ℕ → Type 0
HasAllLater spans n m held = (j : ℕ) (b : Span) → m ≤ j → slice_get spans j ≡ Some b → HasAllOver spans n b held

-- so far as numbers were looked at, those of boxes that haven't ended are kept
pub record AreKeptTo (spans : List Span) (held : List ℕ) (own : Span) (i : ℕ) (still : List ℕ) : Type 0 where
  pub some : (k : ℕ) → Contains still k → Contains held k
  pub all : (j k : ℕ) (a : Span) → j < i → slice_get held j ≡ Some k → slice_get spans k ≡ Some a → IsLate a own → Contains still k

pub kept_late_of_no_numbers : (spans : List Span) (held : List ℕ) (own : Span) → AreKeptTo spans held own 0 []
kept_late_of_no_numbers spans held own = record {
  some = λ k has. let less = has.1 in absurd (omega (arith, less));
  all = λ j k a less at there late. absurd (omega (arith, less));
}

pub kept_late_with_late_box : (spans : List Span) (held : List ℕ) (own : Span) (i n : ℕ) (still more : List ℕ) → AreKeptTo spans held own i still → slice_get held i ≡ Some n
    → more ≡ still ++ n ∷ [] → AreKeptTo spans held own (i + 1) more
kept_late_with_late_box spans held own i n still more h at is = record {
  some = λ k has. elim (Contains-push_cases still n k (subst (λ (xs : List ℕ). Contains xs k) is has)) [
    | inl old ↦ h.some k old
    | inr same ↦ subst (Contains held) same (i, slice_get_within held i n at, get_or_from_slice_get held i n n at)
  ];
  all = λ j k a less there get late. subst (λ (xs : List ℕ). Contains xs k) (sym is) (elim (cases_lt j i) [
    | inl before ↦ Contains-append_left still (n ∷ []) k (h.all j k a before there get late)
    | inr past ↦
        let here : j ≡ i = omega (arith, less, past) in
        let same : n ≡ k = same_Some n k (sym at ∙ ap (slice_get held) (sym here) ∙ there) in
        subst (Contains (still ++ n ∷ [])) same (Contains-push still n)
  ]);
}

pub kept_late_past_other_box : (spans : List Span) (held : List ℕ) (own : Span) (i n : ℕ) (still : List ℕ) → AreKeptTo spans held own i still → slice_get held i ≡ Some n
    → ((a : Span) → slice_get spans n ≡ Some a → IsLate a own → ⊥) → AreKeptTo spans held own (i + 1) still
kept_late_past_other_box spans held own i n still h at not = record {
  some = h.some;
  all = λ j k a less there get late. elim (cases_lt j i) [
    | inl before ↦ h.all j k a before there get late
    | inr past ↦
        let here : j ≡ i = omega (arith, less, past) in
        let same : k ≡ n = same_Some k n (sym there ∙ ap (slice_get held) here ∙ at) in
        absurd (not a (subst (λ m. slice_get spans m ≡ Some a) same get) late)
  ];
}

pub kept_late_of_all : (spans : List Span) (held : List ℕ) (own : Span) (i : ℕ) (still : List ℕ) → length held ≤ i → AreKeptTo spans held own i still
    → KeepsLate spans own held still
kept_late_of_all spans held own i still all h k a has get late =
    h.all has.0 k a (let within = has.1 in omega (arith, within, all)) (slice_get-get_or held has.0 k has.1 ∙ ap Some has.2) get late

-- what is left of the numbers, where those of boxes are taken away that have ended where box n begins
pub all_later_dropped : (spans : List Span) (n : ℕ) (own : Span) (held still : List ℕ) → AreRising spans → slice_get spans n ≡ Some own
    → HasAllLater spans n n held → KeepsLate spans own held still → HasAllLater spans n n still
all_later_dropped spans n own held still rising at h keeps = λ j b from get k a less get_a over.
    keeps k a (h j b from get k a less get_a over) get_a (elim (cases_lt n j) [
      | inl after ↦
          let one = rising k n a own less get_a at in
          let two = rising n j own b after at get in
          let x = one.thread in
          let y = two.thread in
          let same = over.thread in
          let first = two.first (omega (arith, x, y, same)) in
          let held = over.held in
          record { thread = omega (arith, x, y, same); held = omega (arith, first, held) }
      | inr not ↦
          let here : n ≡ j = omega (arith, from, not) in
          let is : b ≡ own = same_Some b own (sym get ∙ ap (slice_get spans) (sym here) ∙ at) in
          record {
            thread = over.thread ∙ ap (λ (z : Span). z.thread) is;
            held = subst (λ (z : Span). z.first < a.last) is over.held;
          }
    ])

pub all_later_next_box : (spans : List Span) (n : ℕ) (still more : List ℕ) → HasAllLater spans n n still → more ≡ still ++ n ∷ []
    → HasAllLater spans (n + 1) (n + 1) more
all_later_next_box spans n still more h is = λ j b from get k a less get_a over. subst (λ (xs : List ℕ). Contains xs k) (sym is) (elim (cases_lt k n) [
  | inl before ↦ Contains-append_left still (n ∷ []) k (h j b (omega (arith, from)) get k a before get_a over)
  | inr past ↦ let here : n ≡ k = omega (arith, less, past) in subst (Contains (still ++ n ∷ [])) here (Contains-push still n)
])

pub first_numbers_push : (n : ℕ) (still more : List ℕ) → AreOfFirst n still → more ≡ still ++ n ∷ [] → AreOfFirst (n + 1) more
first_numbers_push n still more h is = λ k has. elim (Contains-push_cases still n k (subst (λ (xs : List ℕ). Contains xs k) is has)) [
  | inl old ↦ let less = h k old in omega (arith, less)
  | inr same ↦ omega (arith, same)
]

-- ---- rows

-- none of the first i of these boxes has the row and is over the box
abbrev pub IsNotTakenTo : List Span → List ℕ → List ℕ → Span → ℕ → ℕ → Type 0
IsNotTakenTo spans rows held own y i = (j k : ℕ) (a : Span) → j < i → slice_get held j ≡ Some k → slice_get spans k ≡ Some a → slice_get rows k ≡ Some y → IsOverSpan a own → ⊥

pub not_taken_to_next : (spans : List Span) (rows held : List ℕ) (own : Span) (y i n : ℕ) → IsNotTakenTo spans rows held own y i → slice_get held i ≡ Some n
    → ((a : Span) → slice_get spans n ≡ Some a → slice_get rows n ≡ Some y → IsOverSpan a own → ⊥) → IsNotTakenTo spans rows held own y (i + 1)
not_taken_to_next spans rows held own y i n h at not = λ j k a less there get row over. elim (cases_lt j i) [
  | inl before ↦ h j k a before there get row over
  | inr past ↦
      let here : j ≡ i = omega (arith, less, past) in
      let same : k ≡ n = same_Some k n (sym there ∙ ap (slice_get held) here ∙ at) in
      not a (subst (λ m. slice_get spans m ≡ Some a) same get) (subst (λ m. slice_get rows m ≡ Some y) same row) over
]

pub not_taken_by_any_box : (spans : List Span) (rows held : List ℕ) (own : Span) (y i n : ℕ) → IsNotTakenTo spans rows held own y i → length held ≤ i
    → HasAllOver spans n own held → IsTaken spans rows n own y → ⊥
not_taken_by_any_box spans rows held own y i n h all has taken =
    let among = has taken.number taken.other taken.before taken.there taken.over in
    h among.0 taken.number taken.other (let within = among.1 in omega (arith, within, all))
    (slice_get-get_or held among.0 taken.number among.1 ∙ ap Some among.2) taken.there taken.row taken.over

-- ---- at first

pub no_first_numbers : (n : ℕ) (held : List ℕ) → held ≡ [] → AreOfFirst n held
no_first_numbers n held is = λ k has. let less = has.1 in let none = ap (λ (xs : List ℕ). length xs) is in absurd (omega (arith, less, none))

pub no_boxes_all_later : (spans : List Span) (held : List ℕ) → HasAllLater spans 0 0 held
no_boxes_all_later spans held = λ j b from get k a less get_a over. absurd (omega (arith, less))
