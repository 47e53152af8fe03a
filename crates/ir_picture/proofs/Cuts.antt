-- Boxes in their order, and the next box of a thread.
use Rattle.std.proofs.Common.{◌≡◌, ℕ, suc, zero, ◌+◌, ◌<◌, ◌≤◌, inl, inr, Some, List, [], ◌∷◌, length, refl, sym, ap, ◌∙◌, subst, arith}
use Rattle.std.specs.Prelude.{slice_get}
use Rattle.std.proofs.lemmas.Bool.{cases_eq, cases_lt}
use Rattle.std.proofs.lemmas.Option.{same_Some, none-some}
use Rattle.ir_trace.specs.Recorded.{Recorded, recorded_thread}
use Rattle.ir_picture.specs.Boxes.{IsInBox, IsBox, AreBoxes}
use Rattle.ir_picture.specs.Boxing.{AreBoxesApart}
use Rattle.ir_picture.specs.Placing.{IsPlacingCut}
use Rattle.ir_picture.specs.declared.event_box.EventBox.{EventBox}

-- the first event of a box is in it
pub first_event_is_in_box : (r : Recorded) (b : EventBox) → IsBox r b → IsInBox b b.thread b.event
first_event_is_in_box r b is = record { thread = refl; from = omega arith; below = omega (arith, is.some) }

-- of two boxes the earlier ends before the later begins
pub boxes_are_apart : (r : Recorded) (boxes : List EventBox) → AreBoxes r boxes → AreBoxesApart boxes
boxes_are_apart r boxes are k m a b less at_k at_m = elim (are.rising k m a b less at_k at_m) [
  | inl thread ↦ inl thread
  | inr same ↦ elim (cases_lt b.event (a.event + a.count)) [
    | inl inside ↦
        let both : k ≡ m = are.one k m b.thread b.event a b at_k at_m (record { thread = same.0; from = omega (arith, same.1); below = inside })
        (first_event_is_in_box r b (are.each m b at_m)) in
        absurd (omega (arith, both, less))
    | inr not ↦ inr (same.0, omega (arith, not))
  ]
]

-- the box that has the next event of a thread isn't one of those before
next_box_not_before_cut : (boxes : List EventBox) (t n k m : ℕ) (b : EventBox) → IsPlacingCut boxes t n k → slice_get boxes m ≡ Some b → IsInBox b t n → k ≤ m
next_box_not_before_cut boxes t n k m b cut at has = elim (cases_lt m k) [
  | inl less ↦ elim (cut.before m b at less) [
    | inl thread ↦ absurd (omega (arith, thread, has.thread))
    | inr ends ↦ absurd (omega (arith, ends.1, has.below))
  ]
  | inr not ↦ omega (arith, not)
]

-- where the box at a cut is one of the thread, it begins with the thread's next event
pub cut_box_begins_at_event : (r : Recorded) (boxes : List EventBox) (t n k : ℕ) (b : EventBox) → AreBoxes r boxes → IsPlacingCut boxes t n k → slice_get boxes k ≡ Some b
    → b.thread ≡ t → b.event ≡ n
cut_box_begins_at_event r boxes t n k b are cut at thread = elim (cut.after k b at (omega arith)) [
  | inl above ↦ absurd (omega (arith, above, thread))
  | inr from ↦ elim (cases_eq b.event n) [
    | inl here ↦ here
    | inr ne ↦ absurd (late from.1 ne)
  ]
]
  where
    late : n ≤ b.event → (b.event ≡ n → ⊥) → ⊥
    late from ne =
        let within : n < length (recorded_thread r t).events = omega (
          arith,
          from,
          ne,
          (are.each k b at).some,
          (are.each k b at).within,
          ap (λ z. length (recorded_thread r z).events) thread,
        ) in
        let h = are.all t n within in
        let after : k ≤ h.number = next_box_not_before_cut boxes t n k h.number h.box cut h.there h.has in
        elim (cases_eq k h.number) [
          | inl same ↦
              let box : b ≡ h.box = same_Some b h.box (sym at ∙ subst (λ z. slice_get boxes z ≡ Some h.box) (sym same) h.there) in
              omega (arith, from, ne, h.has.from, ap (λ (x : EventBox). x.event) box)
          | inr other ↦ elim (are.rising k h.number b h.box (omega (arith, after, other)) at h.there) [
            | inl less ↦ omega (arith, less, thread, h.has.thread)
            | inr event ↦ omega (arith, event.1, h.has.from, from)
          ]
        ]

-- there is a box at each place below another
lower_element_exists : (xs : List EventBox) (m i : ℕ) (a : EventBox) → slice_get xs m ≡ Some a → i < m → (b : EventBox) × (slice_get xs i ≡ Some b)
lower_element_exists [] m i a at less = absurd (none-some a at)
lower_element_exists (x ∷ xs) zero i a at less = absurd (omega (arith, less))
lower_element_exists (x ∷ xs) (suc m) zero a at less = (x, refl)
lower_element_exists (x ∷ xs) (suc m) (suc i) a at less = lower_element_exists xs m i a at (omega (arith, less))

-- where it isn't, or there is none, the thread has no more events
pub no_box_no_events_left : (r : Recorded) (boxes : List EventBox) (t n k : ℕ) → AreBoxes r boxes → IsPlacingCut boxes t n k
    → ((b : EventBox) → slice_get boxes k ≡ Some b → b.thread ≡ t → ⊥) → n < length (recorded_thread r t).events → ⊥
no_box_no_events_left r boxes t n k are cut none within =
    let h = are.all t n within in
    let after : k ≤ h.number = next_box_not_before_cut boxes t n k h.number h.box cut h.there h.has in
    elim (cases_eq k h.number) [
      | inl same ↦ none h.box (subst (λ z. slice_get boxes z ≡ Some h.box) (sym same) h.there) h.has.thread
      | inr other ↦ between h.number h.box (omega (arith, after, other)) h.there h.has
    ]
  where
    between : (m : ℕ) (a : EventBox) → k < m → slice_get boxes m ≡ Some a → IsInBox a t n → ⊥
    between m a less at has =
        let b = lower_element_exists boxes m k a at less in
        elim (cut.after k b.0 b.1 (omega arith)) [
          | inl above ↦ elim (are.rising k m b.0 a less b.1 at) [
            | inl lower ↦ omega (arith, above, lower, has.thread)
            | inr same ↦ omega (arith, above, same.0, has.thread)
          ]
          | inr here ↦ none b.0 b.1 here.0
        ]

-- the cut behind the box at a cut
pub cut_after_next_box : (r : Recorded) (boxes : List EventBox) (t n k : ℕ) (b : EventBox) → AreBoxes r boxes → IsPlacingCut boxes t n k → slice_get boxes k ≡ Some b
    → b.thread ≡ t → b.event ≡ n → IsPlacingCut boxes t (n + b.count) (k + 1)
cut_after_next_box r boxes t n k b are cut at thread event = record {
  before = λ m a at_m less. elim (cases_lt m k) [
    | inl old ↦ elim (cut.before m a at_m old) [
      | inl lower ↦ inl lower
      | inr ends ↦ inr (ends.0, omega (arith, ends.1))
    ]
    | inr not ↦
        let here : k ≡ m = omega (arith, not, less) in
        let same : b ≡ a = same_Some b a (sym at ∙ subst (λ z. slice_get boxes z ≡ Some a) (sym here) at_m) in
        inr (
          ap (λ (x : EventBox). x.thread) (sym same) ∙ thread,
          omega (arith, event, ap (λ (x : EventBox). x.event) same, ap (λ (x : EventBox). x.count) same),
        )
  ];
  after = λ m a at_m from. elim (boxes_are_apart r boxes are k m b a (omega (arith, from)) at at_m) [
    | inl above ↦ inl (omega (arith, above, thread))
    | inr ends ↦ inr (sym ends.0 ∙ thread, omega (arith, ends.1, event))
  ];
}
