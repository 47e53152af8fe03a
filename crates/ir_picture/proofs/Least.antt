-- Least numbers above others, and places right of boxes.
use Rattle.std.proofs.Common.{◌≡◌, ℕ, ◌+◌, ◌≤◌, ◌⊎◌, inl, inr, max, Some, List, slice_set, refl, sym, ap, ◌∙◌, subst, arith}
use Rattle.std.specs.Prelude.{slice_get}
use Rattle.std.proofs.lemmas.Bool.{cases_eq}
use Rattle.std.proofs.lemmas.Option.{same_Some, slice_get_within}
use Rattle.ir_picture.specs.Boxes.{IsInBox}
use Rattle.ir_picture.specs.Places.{IsLeastAbove}
use Rattle.ir_picture.specs.Placing.{EndsWhere, IsAfterBox, first_point, right_of, later_of}
use Rattle.ir_picture.specs.declared.event_box.EventBox.{EventBox}
use Rattle.ir_picture.specs.declared.placed_box.Point.{Point}
use Rattle.ir_picture.specs.declared.placed_box.PlacedBox.{PlacedBox}
use Rattle.ir_picture.proofs.Lists.{slice_get_set_elsewhere, slice_get_set_split}

pub least_above_cong : (from : ℕ) (A B : ℕ → Type 0) (y : ℕ) → ((z : ℕ) → A z → B z) → ((z : ℕ) → B z → A z) → IsLeastAbove from A y
    → IsLeastAbove from B y
least_above_cong from A B y to back h = record {
  start = h.start;
  above = λ z b. h.above z (back z b);
  least = λ w low all. h.least w low (λ z a. all z (to z a));
}

pub least_above_nothing : (from : ℕ) (A : ℕ → Type 0) → ((z : ℕ) → A z → ⊥) → IsLeastAbove from A from
least_above_nothing from A none = record {
  start = omega arith;
  above = λ z a. absurd (none z a);
  least = λ w low all. low;
}

pub least_above_single : (from z : ℕ) (A : ℕ → Type 0) → from ≤ z + 1 → A z → ((w : ℕ) → A w → w ≡ z) → IsLeastAbove from A (z + 1)
least_above_single from z A low is only = record {
  start = low;
  above = λ w a. omega (arith, only w a);
  least = λ w from_low all. omega (arith, all z is);
}

pub least_above_union : (from : ℕ) (A B C : ℕ → Type 0) (x y : ℕ) → ((z : ℕ) → A z → C z) → ((z : ℕ) → B z → C z) → ((z : ℕ) → C z → A z ⊎ B z)
    → IsLeastAbove from A x → IsLeastAbove from B y → IsLeastAbove from C (max x y)
least_above_union from A B C x y of_a of_b parts h k = record {
  start = omega (arith, h.start);
  above = λ z c. elim (parts z c) [
    | inl a ↦ omega (arith, h.above z a)
    | inr b ↦ omega (arith, k.above z b)
  ];
  least = λ w low all. omega (arith, h.least w low (λ z a. all z (of_a z a)), k.least w low (λ z b. all z (of_b z b)));
}

-- ---- the ends of boxes

pub ends_where_of_wider_set : (boxes : List PlacedBox) (number : Point → ℕ) (A B : ℕ → ℕ → Type 0) → ((u i : ℕ) → A u i → B u i) → (z : ℕ)
    → EndsWhere boxes number A z → EndsWhere boxes number B z
ends_where_of_wider_set boxes number A B to z e = record {
  at = e.at;
  box = e.box;
  event = e.event;
  there = e.there;
  has = e.has;
  these = to e.box.events.thread e.event e.these;
  ends = e.ends;
}

-- the ends of boxes stay where another box is changed
pub ends_where_after_set : (boxes : List PlacedBox) (k : ℕ) (b new : PlacedBox) (number : Point → ℕ) (These : ℕ → ℕ → Type 0) → slice_get boxes k ≡ Some b
    → ((i : ℕ) → IsInBox b.events b.events.thread i → These b.events.thread i → ⊥) → (z : ℕ) → EndsWhere boxes number These z
    → EndsWhere (slice_set boxes k new) number These z
ends_where_after_set boxes k b new number These there not z e = elim (cases_eq k e.at) [
  | inl here ↦
      let same : b ≡ e.box = same_Some b e.box (sym there ∙ subst (λ m. slice_get boxes m ≡ Some e.box) (sym here) e.there) in
      absurd (subst (λ (x : PlacedBox). ((i : ℕ) → IsInBox x.events x.events.thread i → These x.events.thread i → ⊥)) same not e.event e.has e.these)
  | inr ne ↦ record {
    at = e.at;
    box = e.box;
    event = e.event;
    there = slice_get_set_elsewhere boxes k e.at new ne ∙ e.there;
    has = e.has;
    these = e.these;
    ends = e.ends;
  }
]

pub ends_where_before_set : (boxes : List PlacedBox) (k : ℕ) (b new : PlacedBox) (number : Point → ℕ) (These : ℕ → ℕ → Type 0) → slice_get boxes k ≡ Some b
    → new.events ≡ b.events → ((i : ℕ) → IsInBox b.events b.events.thread i → These b.events.thread i → ⊥) → (z : ℕ)
    → EndsWhere (slice_set boxes k new) number These z → EndsWhere boxes number These z
ends_where_before_set boxes k b new number These there same not z e = elim (slice_get_set_split boxes k e.at new e.box (slice_get_within boxes k b there) e.there) [
  | inl here ↦
      let events : b.events ≡ e.box.events = sym same ∙ ap (λ (x : PlacedBox). x.events) here.1 in
      absurd (subst (λ (x : EventBox). ((i : ℕ) → IsInBox x x.thread i → These x.thread i → ⊥)) events not e.event e.has e.these)
  | inr old ↦ record {
    at = e.at;
    box = e.box;
    event = e.event;
    there = old.1;
    has = e.has;
    these = e.these;
    ends = e.ends;
  }
]

-- ---- places right of boxes

pub after_equal_events : (boxes : List PlacedBox) (A B : ℕ → ℕ → Type 0) (p : Point) → ((u i : ℕ) → A u i → B u i) → ((u i : ℕ) → B u i → A u i)
    → IsAfterBox boxes A p → IsAfterBox boxes B p
after_equal_events boxes A B p to back h = record {
  x = least_above_cong 0 (EndsWhere boxes (λ q. q.x) A) (EndsWhere boxes (λ q. q.x) B) p.x (ends_where_of_wider_set boxes (λ q. q.x) A B to)
      (ends_where_of_wider_set boxes (λ q. q.x) B A back) h.x;
  u = least_above_cong 1 (EndsWhere boxes (λ q. q.u) A) (EndsWhere boxes (λ q. q.u) B) p.u (ends_where_of_wider_set boxes (λ q. q.u) A B to)
      (ends_where_of_wider_set boxes (λ q. q.u) B A back) h.u;
}

pub after_other_box_set : (boxes : List PlacedBox) (k : ℕ) (b new : PlacedBox) (These : ℕ → ℕ → Type 0) (p : Point) → slice_get boxes k ≡ Some b
    → new.events ≡ b.events → ((i : ℕ) → IsInBox b.events b.events.thread i → These b.events.thread i → ⊥) → IsAfterBox boxes These p
    → IsAfterBox (slice_set boxes k new) These p
after_other_box_set boxes k b new These p there same not h = record {
  x = least_above_cong 0 (EndsWhere boxes (λ q. q.x) These) (EndsWhere (slice_set boxes k new) (λ q. q.x) These) p.x
      (ends_where_after_set boxes k b new (λ q. q.x) These there not) (ends_where_before_set boxes k b new (λ q. q.x) These there same not) h.x;
  u = least_above_cong 1 (EndsWhere boxes (λ q. q.u) These) (EndsWhere (slice_set boxes k new) (λ q. q.u) These) p.u
      (ends_where_after_set boxes k b new (λ q. q.u) These there not) (ends_where_before_set boxes k b new (λ q. q.u) These there same not) h.u;
}

pub after_no_events : (boxes : List PlacedBox) (These : ℕ → ℕ → Type 0) → ((u i : ℕ) → These u i → ⊥) → IsAfterBox boxes These first_point
after_no_events boxes These none = record {
  x = least_above_nothing 0 (EndsWhere boxes (λ q. q.x) These) (λ z e. none e.box.events.thread e.event e.these);
  u = least_above_nothing 1 (EndsWhere boxes (λ q. q.u) These) (λ z e. none e.box.events.thread e.event e.these);
}

ends_where_union_cases : (boxes : List PlacedBox) (number : Point → ℕ) (A B C : ℕ → ℕ → Type 0) → ((u i : ℕ) → C u i → A u i ⊎ B u i) → (z : ℕ)
    → EndsWhere boxes number C z → EndsWhere boxes number A z ⊎ EndsWhere boxes number B z
ends_where_union_cases boxes number A B C parts z e = elim (parts e.box.events.thread e.event e.these) [
  | inl a ↦ inl (record { at = e.at; box = e.box; event = e.event; there = e.there; has = e.has; these = a; ends = e.ends })
  | inr b ↦ inr (record { at = e.at; box = e.box; event = e.event; there = e.there; has = e.has; these = b; ends = e.ends })
]

pub after_union_is_later : (boxes : List PlacedBox) (A B C : ℕ → ℕ → Type 0) (p q : Point) → ((u i : ℕ) → A u i → C u i) → ((u i : ℕ) → B u i → C u i)
    → ((u i : ℕ) → C u i → A u i ⊎ B u i) → IsAfterBox boxes A p → IsAfterBox boxes B q → IsAfterBox boxes C (later_of p q)
after_union_is_later boxes A B C p q of_a of_b parts h k = record {
  x = least_above_union 0 (EndsWhere boxes (λ y. y.x) A) (EndsWhere boxes (λ y. y.x) B) (EndsWhere boxes (λ y. y.x) C) p.x q.x
      (ends_where_of_wider_set boxes (λ y. y.x) A C of_a) (ends_where_of_wider_set boxes (λ y. y.x) B C of_b) (ends_where_union_cases boxes (λ y. y.x) A B C parts) h.x k.x;
  u = least_above_union 1 (EndsWhere boxes (λ y. y.u) A) (EndsWhere boxes (λ y. y.u) B) (EndsWhere boxes (λ y. y.u) C) p.u q.u
      (ends_where_of_wider_set boxes (λ y. y.u) A C of_a) (ends_where_of_wider_set boxes (λ y. y.u) B C of_b) (ends_where_union_cases boxes (λ y. y.u) A B C parts) h.u k.u;
}

-- where these are events of one box alone
pub after_single_is_its_end : (boxes : List PlacedBox) (k i : ℕ) (b : PlacedBox) (These : ℕ → ℕ → Type 0) → slice_get boxes k ≡ Some b
    → IsInBox b.events b.events.thread i → These b.events.thread i
    → ((m j : ℕ) (a : PlacedBox) → slice_get boxes m ≡ Some a → IsInBox a.events a.events.thread j → These a.events.thread j → k ≡ m)
    → IsAfterBox boxes These (right_of b.end)
after_single_is_its_end boxes k i b These there has is only = record {
  x = least_above_single 0 b.end.x (EndsWhere boxes (λ q. q.x) These) (omega arith)
      (record { at = k; box = b; event = i; there = there; has = has; these = is; ends = refl }) (λ w e. one (λ q. q.x) w e);
  u = least_above_single 1 b.end.u (EndsWhere boxes (λ q. q.u) These) (omega arith)
      (record { at = k; box = b; event = i; there = there; has = has; these = is; ends = refl }) (λ w e. one (λ q. q.u) w e);
}
  where
    one : (number : Point → ℕ) (w : ℕ) → EndsWhere boxes number These w → w ≡ number b.end
    one number w e =
        let place : k ≡ e.at = only e.at e.event e.box e.there e.has e.these in
        let same : b ≡ e.box = same_Some b e.box (sym there ∙ subst (λ m. slice_get boxes m ≡ Some e.box) (sym place) e.there) in
        sym e.ends ∙ ap (λ (x : PlacedBox). number x.end) (sym same)
