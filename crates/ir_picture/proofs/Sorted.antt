-- Boxes in their order, as a binary search takes them.
use Rattle.std.proofs.Common.{◌≡◌, ℕ, suc, zero, ◌+◌, ◌<◌, ◌≤◌, ◌⊎◌, inl, inr, Bool, true, false, ltb, ◌==◌, ◌&&◌, ◌||◌, nat_lt, nat_le}
use Rattle.std.proofs.Common.{Some, List, [], ◌∷◌, ◌++◌, length, get_or, refl, sym, ap, ◌∙◌, subst, arith, eq-eqb}
use Rattle.std.specs.Prelude.{slice_get}
use Rattle.std.specs.List.Sorted.{IsNonDecreasingBy, IsPartitionPoint, IsPartitionedBy}
use Rattle.std.proofs.lemmas.Bool.{cases_eq, cases_lt, ltb-true, ltb-false, leb-true, leb-false, eqb-true, and_parts}
use Rattle.std.proofs.lemmas.Option.{same_Some, none-some, slice_get_within, slice_get-get_or, get_or_from_slice_get}
use Rattle.ir_lemmas.proofs.CallerLemmas.{true_is_not_false, and_true_from_both, or_true_from_left, or_true_from_right, slice_get-push_cases}
use Rattle.ir_picture.specs.Boxes.{IsInBox}
use Rattle.ir_picture.specs.Boxing.{EndsBy, AreBoxesApart}
use Rattle.ir_picture.specs.Placing.{IsPlacingCut, first_point, events_of_all}
use Rattle.ir_picture.specs.Shown.{is_in, has_box, begins_by}
use Rattle.ir_picture.specs.declared.event_box.EventBox.{EventBox}
use Rattle.ir_picture.specs.declared.placed_box.PlacedBox.{PlacedBox}
use Rattle.ir_picture.specs.declared.placing.Lane.{Lane}
use Rattle.ir_picture.proofs.Lists.{slice_get_of_map}

pub apart_threads_sorted : (boxes : List EventBox) → AreBoxesApart boxes → IsNonDecreasingBy (λ (b : EventBox). b.thread) boxes
apart_threads_sorted boxes apart i j d le less = elim (cases_eq i j) [
  | inl same ↦ omega (arith, ap (λ k. (get_or boxes k d).thread) same)
  | inr ne ↦ elim (apart i j (get_or boxes i d) (get_or boxes j d) (omega (arith, le, ne)) (slice_get-get_or boxes i d (omega (arith, le, less)))
      (slice_get-get_or boxes j d less)) [
        | inl lower ↦ omega (arith, lower)
        | inr by ↦ omega (arith, by.0)
      ]
]

pub partition_point_is_cut : (boxes : List EventBox) (t i : ℕ)
    → IsPartitionPoint (λ (b : EventBox). ltb b.thread t ≡ true) (λ b. ltb b.thread t ≡ false) boxes i → IsPlacingCut boxes t 0 i
partition_point_is_cut boxes t i h = record {
  before = λ m b at less. inl (subst (λ (x : EventBox). x.thread < t) (get_or_from_slice_get boxes m b b at)
      (ltb-true (get_or boxes m b).thread t (h.0 m b (omega arith) less)));
  after = λ m b at from. after_by b (subst (λ (x : EventBox). t ≤ x.thread) (get_or_from_slice_get boxes m b b at)
      (ltb-false (get_or boxes m b).thread t (h.1 m b from (slice_get_within boxes m b at))));
}
  where
    after_by : (b : EventBox) → t ≤ b.thread → (t < b.thread) ⊎ ((b.thread ≡ t) × (0 ≤ b.event))
    after_by b le = elim (cases_eq b.thread t) [
      | inl same ↦ inr (same, omega arith)
      | inr ne ↦ inl (omega (arith, le, ne))
    ]

-- ---- the box that has an event

pub bool_cases : (b : Bool) → (b ≡ true) ⊎ (b ≡ false)
bool_cases true = inl refl
bool_cases false = inr refl

or_true_cases : (a b : Bool) → (a || b) ≡ true → (a ≡ true) ⊎ (b ≡ true)
or_true_cases true b e = inl refl
or_true_cases false b e = inr e

nat_le_true_if_at_most : (a b : ℕ) → a ≤ b → nat_le a b ≡ true
nat_le_true_if_at_most a b h = elim (bool_cases (nat_le a b)) [
  | inl e ↦ e
  | inr e ↦ absurd (omega (arith, h, leb-false a b e))
]

nat_lt_true_if_less : (a b : ℕ) → a < b → nat_lt a b ≡ true
nat_lt_true_if_less a b h = elim (bool_cases (nat_lt a b)) [
  | inl e ↦ e
  | inr e ↦ absurd (omega (arith, h, ltb-false a b e))
]

-- a box begins with an event or before it
BeginsBy : EventBox → ℕ → ℕ → Type 0
BeginsBy b t i = (b.thread < t) ⊎ ((b.thread ≡ t) × (b.event ≤ i))

begins_by_true : (b : EventBox) (t i : ℕ) → BeginsBy b t i → begins_by t i b ≡ true
unfolding BeginsBy
begins_by_true b t i (inl less) = or_true_from_left (nat_lt b.thread t) ((b.thread == t) && nat_le b.event i) (nat_lt_true_if_less b.thread t less)
begins_by_true b t i (inr here) = or_true_from_right (nat_lt b.thread t) ((b.thread == t) && nat_le b.event i)
    (and_true_from_both (b.thread == t) (nat_le b.event i) (eq-eqb b.thread t here.0) (nat_le_true_if_at_most b.event i here.1))

begins_by_sound : (b : EventBox) (t i : ℕ) → begins_by t i b ≡ true → BeginsBy b t i
unfolding BeginsBy
begins_by_sound b t i e = elim (or_true_cases (nat_lt b.thread t) ((b.thread == t) && nat_le b.event i) e) [
  | inl less ↦ inl (ltb-true b.thread t less)
  | inr here ↦
      let parts = and_parts (b.thread == t) (nat_le b.event i) here in
      inr (eqb-true b.thread t parts.0, leb-true b.event i parts.1)
]

pub is_in_true_if_in_box : (b : PlacedBox) (t i : ℕ) → IsInBox b.events t i → is_in t i b ≡ true
is_in_true_if_in_box b t i has = and_true_from_both (b.events.thread == t) (nat_le b.events.event i && nat_lt i (b.events.event + b.events.count))
    (eq-eqb b.events.thread t has.thread)
    (and_true_from_both (nat_le b.events.event i) (nat_lt i (b.events.event + b.events.count)) (nat_le_true_if_at_most b.events.event i has.from)
    (nat_lt_true_if_less i (b.events.event + b.events.count) has.below))

pub in_box_if_is_in_true : (b : PlacedBox) (t i : ℕ) → is_in t i b ≡ true → IsInBox b.events t i
in_box_if_is_in_true b t i e =
    let parts = and_parts (b.events.thread == t) (nat_le b.events.event i && nat_lt i (b.events.event + b.events.count)) e in
    let ends = and_parts (nat_le b.events.event i) (nat_lt i (b.events.event + b.events.count)) parts.1 in
    record {
      thread = eqb-true b.events.thread t parts.0;
      from = leb-true b.events.event i ends.0;
      below = ltb-true i (b.events.event + b.events.count) ends.1;
    }

-- of two boxes the earlier begins by an event where the later does
pub boxes_split_by_begin : (boxes : List PlacedBox) (t i : ℕ) → AreBoxesApart (events_of_all boxes) → IsPartitionedBy (λ (b : PlacedBox). begins_by t i b.events) boxes
unfolding BeginsBy
boxes_split_by_begin boxes t i apart k m d le less is = elim (cases_eq k m) [
  | inl same ↦ subst (λ n. begins_by t i (get_or boxes n d).events ≡ true) (sym same) is
  | inr ne ↦ begins_by_true (get_or boxes k d).events t i
      (earlier (get_or boxes k d).events (get_or boxes m d).events
      (apart k m (get_or boxes k d).events (get_or boxes m d).events (omega (arith, le, ne))
      (slice_get_of_map (λ (x : PlacedBox). x.events) boxes k (get_or boxes k d) (slice_get-get_or boxes k d (omega (arith, le, less))))
      (slice_get_of_map (λ (x : PlacedBox). x.events) boxes m (get_or boxes m d) (slice_get-get_or boxes m d less)))
      (begins_by_sound (get_or boxes m d).events t i is))
]
  where
    earlier : (a b : EventBox) → EndsBy a b.thread b.event → BeginsBy b t i → BeginsBy a t i
    earlier a b (inl less) (inl lower) = inl (omega (arith, less, lower))
    earlier a b (inl less) (inr here) = inl (omega (arith, less, here.0))
    earlier a b (inr by) (inl lower) = inl (omega (arith, by.0, lower))
    earlier a b (inr by) (inr here) = inr (by.0 ∙ here.0, omega (arith, by.1, here.1))

later_begins_after : (b a : EventBox) (t i : ℕ) → IsInBox b t i → EndsBy b a.thread a.event → BeginsBy a t i → ⊥
unfolding BeginsBy
later_begins_after b a t i has (inl less) (inl lower) = omega (arith, less, lower, has.thread)
later_begins_after b a t i has (inl less) (inr here) = omega (arith, less, here.0, has.thread)
later_begins_after b a t i has (inr by) (inl lower) = omega (arith, by.0, lower, has.thread)
later_begins_after b a t i has (inr by) (inr here) = omega (arith, by.1, here.1, has.below)

-- where n boxes begin by an event, it can only be in the last of these
pub event_box_is_last_begun : (boxes : List PlacedBox) (t i n : ℕ) → AreBoxesApart (events_of_all boxes) → n ≤ length boxes
    → IsPartitionPoint (λ (b : PlacedBox). begins_by t i b.events ≡ true) (λ b. begins_by t i b.events ≡ false) boxes n
    → (m : ℕ) (b : PlacedBox) → slice_get boxes m ≡ Some b → IsInBox b.events t i → m + 1 ≡ n
unfolding BeginsBy
event_box_is_last_begun boxes t i n apart bound point m b at has = elim (cases_lt m n) [
  | inl less ↦ elim (cases_eq (m + 1) n) [
    | inl same ↦ same
    | inr ne ↦
        let inside : m + 1 < length boxes = omega (arith, less, ne, bound) in
        let at_next = slice_get-get_or boxes (m + 1) b inside in
        absurd (later_begins_after b.events (get_or boxes (m + 1) b).events t i has
        (apart m (m + 1) b.events (get_or boxes (m + 1) b).events (omega arith) (slice_get_of_map (λ (x : PlacedBox). x.events) boxes m b at)
        (slice_get_of_map (λ (x : PlacedBox). x.events) boxes (m + 1) (get_or boxes (m + 1) b) at_next))
        (begins_by_sound (get_or boxes (m + 1) b).events t i (point.0 (m + 1) b (omega arith) (omega (arith, less, ne)))))
  ]
  | inr not ↦ absurd (true_is_not_false (begins_by t i b.events) (begins_by_true b.events t i (inr (has.thread, has.from)))
      (subst (λ (x : PlacedBox). begins_by t i x.events ≡ false) (get_or_from_slice_get boxes m b b at)
      (point.1 m b (omega (arith, not)) (slice_get_within boxes m b at))))
]

-- ---- whether an event is in a box

pub has_box_true_if_in_box : (boxes : List PlacedBox) (t i k : ℕ) (b : PlacedBox) → slice_get boxes k ≡ Some b → IsInBox b.events t i → has_box boxes t i ≡ true
unfolding has_box
has_box_true_if_in_box [] t i k b at has = absurd (none-some b at)
has_box_true_if_in_box (x ∷ xs) t i zero b at has = or_true_from_left (is_in t i x) (has_box xs t i)
    (subst (λ (y : PlacedBox). is_in t i y ≡ true) (sym (same_Some x b at)) (is_in_true_if_in_box b t i has))
has_box_true_if_in_box (x ∷ xs) t i (suc k) b at has = or_true_from_right (is_in t i x) (has_box xs t i) (has_box_true_if_in_box xs t i k b at has)

pub in_box_if_has_box_true : (boxes : List PlacedBox) (t i : ℕ) → has_box boxes t i ≡ true → (k : ℕ) × (b : PlacedBox) × (slice_get boxes k ≡ Some b) × IsInBox b.events t i
unfolding has_box
in_box_if_has_box_true [] t i e = absurd (let bad : false ≡ true = e in cc)
in_box_if_has_box_true (x ∷ xs) t i e = elim (or_true_cases (is_in t i x) (has_box xs t i) e) [
  | inl here ↦ (0, x, refl, in_box_if_is_in_true x t i here)
  | inr rest ↦ let r = in_box_if_has_box_true xs t i rest in (suc r.0, r.1, r.2, r.3)
]

-- ---- lanes with no box placed

pub lanes_at_start_push : (boxes : List EventBox) (lanes : List Lane) (new : Lane) (t : ℕ) → length lanes ≡ t → new.free ≡ first_point → IsPlacingCut boxes t 0 new.next
    → ((u : ℕ) (l : Lane) → slice_get lanes u ≡ Some l → (l.free ≡ first_point) × IsPlacingCut boxes u 0 l.next)
    → (u : ℕ) (l : Lane) → slice_get (lanes ++ new ∷ []) u ≡ Some l → (l.free ≡ first_point) × IsPlacingCut boxes u 0 l.next
lanes_at_start_push boxes lanes new t long free cut all u l is = elim (slice_get-push_cases lanes new u l is) [
  | inl old ↦ all u l old
  | inr now ↦ subst (λ (x : Lane). (x.free ≡ first_point) × IsPlacingCut boxes u 0 x.next) now.1
      (free, subst (λ z. IsPlacingCut boxes z 0 new.next) (sym (now.0 ∙ long)) cut)
]
