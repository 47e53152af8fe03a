-- The places of boxes, where one more is placed.
use Rattle.std.proofs.Common.{◌≡◌, ℕ, suc, zero, ◌+◌, ◌<◌, ◌⊎◌, inl, inr, max, Some, List, [], ◌∷◌, length, slice_set, ◌==◌, refl, sym, ap, ◌∙◌, subst, arith}
use Rattle.std.specs.Prelude.{slice_get}
use Rattle.std.specs.Option.{option_map}
use Rattle.std.proofs.lemmas.Option.{same_Some}
use Rattle.ir_log.specs.declared.event.Event.{Event}
use Rattle.ir_log.specs.declared.event.Event.TheVariants.{Answer, Read, Write, Try}
use Rattle.ir_trace.specs.Recorded.{Recorded, recorded_thread}
use Rattle.ir_past.specs.Past.{event_at, IsWriteAt}
use Rattle.ir_past.specs.Answers.{AreCoherent}
use Rattle.ir_picture.specs.Needs.{Needs, IsEntryOf}
use Rattle.ir_picture.specs.Boxes.{IsInBox, IsBox, AreBoxes}
use Rattle.ir_picture.specs.Places.{IsLeastAbove, IsPlacedBox, EndsBefore, EndsEarlier, length_of}
use Rattle.ir_picture.specs.Placing.{Knows, EndsWhere, IsAfterBox, IsOf, ReadsPlaced, WritesPlaced, made_by_box, after_needs, first_point, later_of, box_at, events_of_all}
use Rattle.ir_picture.specs.declared.event_box.EventBox.{EventBox}
use Rattle.ir_picture.specs.declared.placed_box.Point.{Point}
use Rattle.ir_picture.specs.declared.placed_box.PlacedBox.{PlacedBox}
use Rattle.ir_picture.specs.declared.table.Version.{Version}
use Rattle.ir_picture.proofs.Lists.{slice_get_of_map, slice_get_map_inverse}
use Rattle.ir_picture.proofs.Least.{least_above_cong, after_equal_events, after_no_events, after_union_is_later, after_other_box_set}
use Rattle.ir_picture.proofs.Least.{ends_where_of_wider_set, ends_where_after_set, ends_where_before_set}
use Rattle.ir_picture.proofs.FoldNeeds.{box_needs_cases}
use Rattle.ir_picture.proofs.Follows.{read_needs_its_maker, write_needs_cases, no_entry_no_needs, some_choice_parts, mapped_some_is_some, made_by_suc_is_made, known_place_can_follow}

-- ---- the first place after what an event needs

-- event j of thread u made version v of object o
abbrev pub MakesVersion : Recorded → ℕ → ℕ → ℕ → ℕ → Type 0
MakesVersion r o v u j = (w k : ℕ) × (v ≡ suc w) × IsWriteAt r u j o w k

made_place_after_makers : (r : Recorded) (boxes : List PlacedBox) (c : ℕ → ℕ) (f : ℕ → ℕ → Version) → Knows r boxes c f → (o v : ℕ) (p : Point)
    → made_by_box (f o v) v ≡ Some p → ((u j : ℕ) → MakesVersion r o v u j → j < c u) → IsAfterBox boxes (MakesVersion r o v) p
made_place_after_makers r boxes c f knows o zero p made all = subst (IsAfterBox boxes (MakesVersion r o 0)) (same_Some first_point p made)
    (after_no_events boxes (MakesVersion r o 0) (λ u i m. omega (arith, m.2)))
made_place_after_makers r boxes c f knows o (suc v) p made all = after_equal_events boxes (WritesPlaced r c o v) (MakesVersion r o (suc v)) p
    (λ u i these. (v, these.1.0, refl, these.1.1))
    (λ u i m. (all u i m, (m.1, subst (λ z. IsWriteAt r u i o z m.1) (omega (arith, m.2)) m.3)))
    (knows.made o v p (sym (made_by_suc_is_made (f o (suc v)) v) ∙ made)).1

entry_needs_maker : (r : Recorded) (t i o v : ℕ) → IsEntryOf r t i o v → (u j : ℕ) → MakesVersion r o v u j → Needs r t i u j
entry_needs_maker r t i o v entry u j m = inl record {
  object = o;
  version = m.0;
  readers = m.1;
  entry = subst (λ z. IsEntryOf r t i o z) m.2 entry;
  made = m.3;
}

pub needs_place_after_needed : (r : Recorded) (boxes : List PlacedBox) (c : ℕ → ℕ) (f : ℕ → ℕ → Version) → AreCoherent r → Knows r boxes c f → (t : ℕ) (e : Event)
    (p : Point) → event_at r t (c t) ≡ Some e → after_needs f e ≡ Some p → IsAfterBox boxes (Needs r t (c t)) p
needs_place_after_needed r boxes c f coherent knows t (Answer kind value) p is after = subst (IsAfterBox boxes (Needs r t (c t))) (same_Some first_point p after)
    (after_no_events boxes (Needs r t (c t)) (λ u j needs. no_entry_no_needs r t (c t) u j (Answer kind value) is (λ o v e. cc) (λ o v l e. cc) needs))
needs_place_after_needed r boxes c f coherent knows t (Try o) p is after = subst (IsAfterBox boxes (Needs r t (c t))) (same_Some first_point p after)
    (after_no_events boxes (Needs r t (c t)) (λ u j needs. no_entry_no_needs r t (c t) u j (Try o) is (λ q v e. cc) (λ q v l e. cc) needs))
needs_place_after_needed r boxes c f coherent knows t (Read o v) p is after =
    let follow = known_place_can_follow r boxes c f coherent knows t (Read o v) p is after in
    after_equal_events boxes (MakesVersion r o v) (Needs r t (c t)) p (entry_needs_maker r t (c t) o v (inl is)) (λ u j needs. read_needs_its_maker r t (c t) o v u j is needs)
    (made_place_after_makers r boxes c f knows o v p after (λ u j m. follow.needs u j (entry_needs_maker r t (c t) o v (inl is) u j m)))
needs_place_after_needed r boxes c f coherent knows t (Write o v l) p is after =
    let follow = known_place_can_follow r boxes c f coherent knows t (Write o v l) p is after in
    let test = some_choice_parts ((f o v).readers == l) (option_map (λ (q : Point). later_of q (f o v).left) (made_by_box (f o v) v)) p after in
    let made = mapped_some_is_some (λ (q : Point). later_of q (f o v).left) (made_by_box (f o v) v) p test.1 in
    subst (IsAfterBox boxes (Needs r t (c t))) made.2
    (after_union_is_later boxes (MakesVersion r o v) (ReadsPlaced r c o v) (Needs r t (c t)) made.0 (f o v).left (entry_needs_maker r t (c t) o v (inr (l, is)))
    (λ u j d. inr (record { object = o; version = v; readers = l; write = is; read = d.1 }))
    (λ u j needs. elim (write_needs_cases r t (c t) o v l u j is needs) [
      | inl m ↦ inl m
      | inr read ↦ inr (follow.needs u j needs, read)
    ])
    (made_place_after_makers r boxes c f knows o v made.0 made.1 (λ u j m. follow.needs u j (entry_needs_maker r t (c t) o v (inr (l, is)) u j m))) (knows.left o v))

-- ---- what ends before a box starts, by its events

-- an event of another box has to come before box b: an earlier one of its thread, or one that it needs
abbrev pub ComesBeforeBox : Recorded → EventBox → ℕ → ℕ → Type 0
ComesBeforeBox r b u i = IsOf b.thread b.event u i ⊎ ((h : ℕ) × IsInBox b b.thread h × Needs r b.thread h u i)

pub comes_before_if_ends : (r : Recorded) (boxes : List PlacedBox) (number : Point → ℕ) (b : PlacedBox) → AreBoxes r (events_of_all boxes) → (z : ℕ)
    → EndsBefore r boxes number b z → EndsWhere boxes number (ComesBeforeBox r b.events) z
comes_before_if_ends r boxes number b are z (inl e) =
    let box = are.each e.at e.box.events (slice_get_of_map (λ (x : PlacedBox). x.events) boxes e.at e.box e.there) in
    record {
      at = e.at;
      box = e.box;
      event = e.box.events.event;
      there = e.there;
      has = record { thread = refl; from = omega arith; below = omega (arith, box.some) };
      these = inl e.earlier;
      ends = e.ends;
    }
comes_before_if_ends r boxes number b are z (inr e) = record {
  at = e.at;
  box = e.box;
  event = e.needs.needed;
  there = e.there;
  has = e.needs.other;
  these = inr (e.needs.event, e.needs.own, e.needs.needs);
  ends = e.ends;
}

pub ends_before_if_comes : (r : Recorded) (boxes : List PlacedBox) (number : Point → ℕ) (b : PlacedBox) (z : ℕ) → EndsWhere boxes number (ComesBeforeBox r b.events) z
    → EndsBefore r boxes number b z
ends_before_if_comes r boxes number b z e = elim e.these [
  | inl own ↦ inl (record { at = e.at; box = e.box; there = e.there; earlier = (own.0, omega (arith, own.1, e.has.from)); ends = e.ends })
  | inr needed ↦ inr (record {
    at = e.at;
    box = e.box;
    there = e.there;
    needs = record { event = needed.0; needed = e.event; own = needed.1; other = e.has; needs = needed.2 };
    ends = e.ends;
  })
]

own_thread_if_earlier : (r : Recorded) (boxes : List PlacedBox) (number : Point → ℕ) (b : PlacedBox) → AreBoxes r (events_of_all boxes) → (z : ℕ)
    → EndsEarlier boxes number b z → EndsWhere boxes number (IsOf b.events.thread b.events.event) z
own_thread_if_earlier r boxes number b are z e =
    let box = are.each e.at e.box.events (slice_get_of_map (λ (x : PlacedBox). x.events) boxes e.at e.box e.there) in
    record {
      at = e.at;
      box = e.box;
      event = e.box.events.event;
      there = e.there;
      has = record { thread = refl; from = omega arith; below = omega (arith, box.some) };
      these = e.earlier;
      ends = e.ends;
    }

earlier_if_own_thread : (boxes : List PlacedBox) (number : Point → ℕ) (b : PlacedBox) (z : ℕ) → EndsWhere boxes number (IsOf b.events.thread b.events.event) z
    → EndsEarlier boxes number b z
earlier_if_own_thread boxes number b z e = record {
  at = e.at;
  box = e.box;
  there = e.there;
  earlier = (e.these.0, omega (arith, e.these.1, e.has.from));
  ends = e.ends;
}

-- the places of a box, by events
pub record IsPlacedByEvents (r : Recorded) (boxes : List PlacedBox) (b : PlacedBox) : Type 0 where
  pub start : IsAfterBox boxes (ComesBeforeBox r b.events) b.start
  pub end_x : (e : Event) → event_at r b.events.thread b.events.event ≡ Some e → b.end.x ≡ b.start.x + length_of e
  pub end_u : b.end.u ≡ b.start.u
  pub came : IsLeastAbove 1 (EndsWhere boxes (λ q. q.u) (IsOf b.events.thread b.events.event)) b.came
  pub row : b.row ≡ 0

pub placed_by_events_placed : (r : Recorded) (boxes : List PlacedBox) (b : PlacedBox) → AreBoxes r (events_of_all boxes) → IsPlacedByEvents r boxes b → IsPlacedBox r boxes b
placed_by_events_placed r boxes b are h = record {
  start_x = least_above_cong 0 (EndsWhere boxes (λ q. q.x) (ComesBeforeBox r b.events)) (EndsBefore r boxes (λ q. q.x) b) b.start.x
      (ends_before_if_comes r boxes (λ q. q.x) b) (comes_before_if_ends r boxes (λ q. q.x) b are) h.start.x;
  end_x = h.end_x;
  start_u = least_above_cong 1 (EndsWhere boxes (λ q. q.u) (ComesBeforeBox r b.events)) (EndsBefore r boxes (λ q. q.u) b) b.start.u
      (ends_before_if_comes r boxes (λ q. q.u) b) (comes_before_if_ends r boxes (λ q. q.u) b are) h.start.u;
  end_u = h.end_u;
  came = least_above_cong 1 (EndsWhere boxes (λ q. q.u) (IsOf b.events.thread b.events.event)) (EndsEarlier boxes (λ q. q.u) b) b.came
      (earlier_if_own_thread boxes (λ q. q.u) b) (own_thread_if_earlier r boxes (λ q. q.u) b are) h.came;
  row = h.row;
}

pub placed_is_by_events : (r : Recorded) (boxes : List PlacedBox) (b : PlacedBox) → AreBoxes r (events_of_all boxes) → IsPlacedBox r boxes b → IsPlacedByEvents r boxes b
placed_is_by_events r boxes b are h = record {
  start = record {
    x = least_above_cong 0 (EndsBefore r boxes (λ q. q.x) b) (EndsWhere boxes (λ q. q.x) (ComesBeforeBox r b.events)) b.start.x
        (comes_before_if_ends r boxes (λ q. q.x) b are) (ends_before_if_comes r boxes (λ q. q.x) b) h.start_x;
    u = least_above_cong 1 (EndsBefore r boxes (λ q. q.u) b) (EndsWhere boxes (λ q. q.u) (ComesBeforeBox r b.events)) b.start.u
        (comes_before_if_ends r boxes (λ q. q.u) b are) (ends_before_if_comes r boxes (λ q. q.u) b) h.start_u;
  };
  end_x = h.end_x;
  end_u = h.end_u;
  came = least_above_cong 1 (EndsEarlier boxes (λ q. q.u) b) (EndsWhere boxes (λ q. q.u) (IsOf b.events.thread b.events.event)) b.came
      (own_thread_if_earlier r boxes (λ q. q.u) b are) (earlier_if_own_thread boxes (λ q. q.u) b) h.came;
  row = h.row;
}

-- a box that is placed stays so where another is changed whose events are none that it comes after
pub stays_placed_after_set : (r : Recorded) (boxes : List PlacedBox) (k : ℕ) (old new b : PlacedBox) → slice_get boxes k ≡ Some old → new.events ≡ old.events
    → ((i : ℕ) → IsInBox old.events old.events.thread i → ComesBeforeBox r b.events old.events.thread i → ⊥) → IsPlacedByEvents r boxes b
    → IsPlacedByEvents r (slice_set boxes k new) b
stays_placed_after_set r boxes k old new b at same not h = record {
  start = after_other_box_set boxes k old new (ComesBeforeBox r b.events) b.start at same not h.start;
  end_x = h.end_x;
  end_u = h.end_u;
  came = least_above_cong 1 (EndsWhere boxes (λ q. q.u) (IsOf b.events.thread b.events.event))
      (EndsWhere (slice_set boxes k new) (λ q. q.u) (IsOf b.events.thread b.events.event)) b.came
      (ends_where_after_set boxes k old new (λ q. q.u) (IsOf b.events.thread b.events.event) at (λ i has own. not i has (inl own)))
      (ends_where_before_set boxes k old new (λ q. q.u) (IsOf b.events.thread b.events.event) at same (λ i has own. not i has (inl own))) h.came;
  row = h.row;
}

-- ---- the box that is placed

least_above_max : (from : ℕ) (A B C : ℕ → Type 0) (x y : ℕ) → ((z : ℕ) → A z → C z) → ((z : ℕ) → B z → C z) → ((z : ℕ) → C z → (z < x) ⊎ (z < y))
    → IsLeastAbove from A x → IsLeastAbove from B y → IsLeastAbove from C (max x y)
least_above_max from A B C x y of_a of_b parts h k = record {
  start = omega (arith, h.start);
  above = λ z c. elim (parts z c) [
    | inl less ↦ omega (arith, less)
    | inr less ↦ omega (arith, less)
  ];
  least = λ w low all. omega (arith, h.least w low (λ z a. all z (of_a z a)), k.least w low (λ z b. all z (of_b z b)));
}

event_below_length : (es : List Event) (i : ℕ) → i < length es → (x : Event) × (slice_get es i ≡ Some x)
event_below_length [] i less = absurd (omega (arith, less))
event_below_length (x ∷ es) zero less = (x, refl)
event_below_length (x ∷ es) (suc i) less = event_below_length es i (omega (arith, less))

-- a box has a first event
pub box_has_first_event : (r : Recorded) (b : EventBox) → IsBox r b → (x : Event) × (event_at r b.thread b.event ≡ Some x)
box_has_first_event r b box = event_below_length (recorded_thread r b.thread).events b.event (omega (arith, box.some, box.within))

-- a box whose first event is e is placed after the earlier boxes of its thread, and after what its first event needs
pub new_box_by_events : (r : Recorded) (boxes : List PlacedBox) (events : EventBox) (e : Event) (free needed : Point) → AreBoxes r (events_of_all boxes)
    → IsBox r events → event_at r events.thread events.event ≡ Some e → IsAfterBox boxes (IsOf events.thread events.event) free
    → IsAfterBox boxes (Needs r events.thread events.event) needed
    → ((m h : ℕ) (a : PlacedBox) → slice_get boxes m ≡ Some a → IsInBox a.events events.thread h → h < events.event → IsPlacedByEvents r boxes a)
    → IsPlacedByEvents r boxes (box_at events e free needed)
new_box_by_events r boxes events e free needed are is first of_free of_needed earlier = record {
  start = record {
    x = least_above_max 0 (EndsWhere boxes (λ q. q.x) (IsOf events.thread events.event)) (EndsWhere boxes (λ q. q.x) (Needs r events.thread events.event))
        (EndsWhere boxes (λ q. q.x) (ComesBeforeBox r events)) free.x needed.x
        (ends_where_of_wider_set boxes (λ q. q.x) (IsOf events.thread events.event) (ComesBeforeBox r events) (λ u i own. inl own))
        (ends_where_of_wider_set boxes (λ q. q.x) (Needs r events.thread events.event) (ComesBeforeBox r events) (λ u i needs. inr (events.event, own_first, needs)))
        parts_x of_free.x of_needed.x;
    u = least_above_max 1 (EndsWhere boxes (λ q. q.u) (IsOf events.thread events.event)) (EndsWhere boxes (λ q. q.u) (Needs r events.thread events.event))
        (EndsWhere boxes (λ q. q.u) (ComesBeforeBox r events)) free.u needed.u
        (ends_where_of_wider_set boxes (λ q. q.u) (IsOf events.thread events.event) (ComesBeforeBox r events) (λ u i own. inl own))
        (ends_where_of_wider_set boxes (λ q. q.u) (Needs r events.thread events.event) (ComesBeforeBox r events) (λ u i needs. inr (events.event, own_first, needs)))
        parts_u of_free.u of_needed.u;
  };
  end_x = λ a is_a. ap (λ (x : Event). max free.x needed.x + length_of x) (same_Some e a (sym first ∙ is_a));
  end_u = refl;
  came = of_free.u;
  row = refl;
}
  where
    own_first : IsInBox events events.thread events.event
    own_first = record { thread = refl; from = omega arith; below = omega (arith, is.some) }

    -- an earlier box of the thread that needs an event starts right of the event's box, and ends left of where the thread is free
    earlier_box : (h u j : ℕ) → h < events.event → Needs r events.thread h u j → (m : ℕ) (d : PlacedBox) → slice_get boxes m ≡ Some d
        → IsInBox d.events u j → u ≡ d.events.thread → (d.end.x < free.x) × (d.end.u < free.u)
    earlier_box h u j less needs m d at_d has_d thread_d =
        let home = are.all events.thread h (omega (arith, less, is.within, is.some)) in
        let back = slice_get_map_inverse (λ (x : PlacedBox). x.events) boxes home.number home.box home.there in
        let a : PlacedBox = back.0 in
        let has : IsInBox a.events events.thread h = subst (λ (x : EventBox). IsInBox x events.thread h) (sym back.2) home.has in
        let at : IsPlacedByEvents r boxes a = earlier home.number h a back.1 has less in
        let own : IsInBox a.events a.events.thread h = record { thread = refl; from = has.from; below = has.below } in
        let needs_a : Needs r a.events.thread h d.events.thread j =
        subst (λ z. Needs r z h d.events.thread j) (sym has.thread) (subst (λ z. Needs r events.thread h z j) thread_d needs) in
        let in_d : IsInBox d.events d.events.thread j = record { thread = refl; from = has_d.from; below = has_d.below } in
        let event_a = box_has_first_event r a.events (are.each home.number a.events (slice_get_of_map (λ (x : PlacedBox). x.events) boxes home.number a back.1)) in (
          omega (
            arith,
            at.start.x.above d.end.x (record { at = m; box = d; event = j; there = at_d; has = in_d; these = inr (h, own, needs_a); ends = refl }),
            at.end_x event_a.0 event_a.1,
            of_free.x.above a.end.x (record { at = home.number; box = a; event = h; there = back.1; has = own; these = (has.thread, less); ends = refl }),
          ),
          omega (
            arith,
            at.start.u.above d.end.u (record { at = m; box = d; event = j; there = at_d; has = in_d; these = inr (h, own, needs_a); ends = refl }),
            at.end_u,
            of_free.u.above a.end.u (record { at = home.number; box = a; event = h; there = back.1; has = own; these = (has.thread, less); ends = refl }),
          ),
        )

    parts_x : (z : ℕ) → EndsWhere boxes (λ q. q.x) (ComesBeforeBox r events) z → (z < free.x) ⊎ (z < needed.x)
    parts_x z w = elim w.these [
      | inl own ↦ inl (of_free.x.above z (record { at = w.at; box = w.box; event = w.event; there = w.there; has = w.has; these = own; ends = w.ends }))
      | inr n ↦ elim (box_needs_cases r events is (suc n.0) n.0 w.box.events.thread w.event (omega arith) n.1.from n.1.below n.2) [
        | inl needs ↦ inr (of_needed.x.above z
            (record { at = w.at; box = w.box; event = w.event; there = w.there; has = w.has; these = needs; ends = w.ends }))
        | inr old ↦ inl (omega (
          arith,
          w.ends,
          (earlier_box old.0 w.box.events.thread w.event old.1 old.2 w.at w.box w.there w.has refl).0,
        ))
      ]
    ]

    parts_u : (z : ℕ) → EndsWhere boxes (λ q. q.u) (ComesBeforeBox r events) z → (z < free.u) ⊎ (z < needed.u)
    parts_u z w = elim w.these [
      | inl own ↦ inl (of_free.u.above z (record { at = w.at; box = w.box; event = w.event; there = w.there; has = w.has; these = own; ends = w.ends }))
      | inr n ↦ elim (box_needs_cases r events is (suc n.0) n.0 w.box.events.thread w.event (omega arith) n.1.from n.1.below n.2) [
        | inl needs ↦ inr (of_needed.u.above z
            (record { at = w.at; box = w.box; event = w.event; there = w.there; has = w.has; these = needs; ends = w.ends }))
        | inr old ↦ inl (omega (
          arith,
          w.ends,
          (earlier_box old.0 w.box.events.thread w.event old.1 old.2 w.at w.box w.there w.has refl).1,
        ))
      ]
    ]
