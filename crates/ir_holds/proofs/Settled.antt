-- Boxes that are put where they have to be again and again come to rest, the first of their threads' order first.
use Rattle.std.proofs.Common.{◌≡◌, ℕ, ◌+◌, ◌-◌, ◌*◌, ◌<◌, ◌≤◌, inl, inr, Some, List, length, get_or, refl, sym, ap, ◌∙◌, subst, arith}
use Rattle.std.specs.List.{slice_get}
use Rattle.std.proofs.lemmas.Bool.{cases_lt}
use Rattle.std.proofs.lemmas.Option.{slice_get_within, slice_get-get_or}
use Rattle.ir_lemmas.proofs.CallerLemmas.{length_of_map}
use Rattle.ir_log.specs.declared.event.Event.{Event}
use Rattle.ir_trace.specs.Recorded.{Recorded}
use Rattle.ir_past.specs.Past.{event_at}
use Rattle.ir_picture.specs.Boxes.{IsBox}
use Rattle.ir_picture.specs.Places.{IsLeastAbove, NeedsBox, EndsNeeded, length_of}
use Rattle.ir_picture.specs.Placing.{events_of_all}
use Rattle.ir_picture.specs.Progress.{AreBoxesOf}
use Rattle.ir_picture.specs.declared.event_box.EventBox.{EventBox}
use Rattle.ir_picture.specs.declared.placed_box.Point.{Point}
use Rattle.ir_picture.specs.declared.placed_box.PlacedBox.{PlacedBox}
use Rattle.ir_picture.proofs.CallerLemmas.{slice_get_of_map, slice_get_map_inverse, least_above_cong, event_length_le_one, box_has_first_event}
use Rattle.ir_holds.specs.Held.{IsLeastFrom, IsMark, MarkedBefore, ComesFrom, HasToBeLeft, ComesTo, IsHeld}
use Rattle.ir_holds.specs.Schedules.{IsPacing, IsNear, AreNear, IsPut, ArePut}
use Rattle.ir_holds.proofs.Defaults.{no_span}
use Rattle.ir_holds.proofs.Depths.{depth_of, depth_monotone, depth_bound, depth_rises_past_start, depth_rises_past_end}
use Rattle.ir_holds.specs.declared.span.Span.{Span}

-- ---- least numbers

least_above_unique : (from : ℕ) (A : ℕ → Type 0) (y z : ℕ) → IsLeastAbove from A y → IsLeastAbove from A z → y ≡ z
least_above_unique from A y z h k =
    let a = h.least z k.start k.above in
    let b = k.least y h.start h.above in
    omega (arith, a, b)

least_from_unique : (from : ℕ) (A : ℕ → Type 0) (y z : ℕ) → IsLeastFrom from A y → IsLeastFrom from A z → y ≡ z
least_from_unique from A y z h k =
    let a = h.least z k.start k.above in
    let b = k.least y h.start h.above in
    omega (arith, a, b)

least_from_cong : (from : ℕ) (A B : ℕ → Type 0) (y : ℕ) → ((z : ℕ) → A z → B z) → ((z : ℕ) → B z → A z) → IsLeastFrom from A y → IsLeastFrom from B y
least_from_cong from A B y to back h = record {
  start = h.start;
  above = λ z b. h.above z (back z b);
  least = λ w low all. h.least w low (λ z a. all z (to z a));
}

-- ---- boxes with the same events

-- a box of one list is in the other, with its events
other_box_has_same_events : (boxes other : List PlacedBox) (n : ℕ) (b : PlacedBox) → events_of_all other ≡ events_of_all boxes → slice_get boxes n ≡ Some b
    → (c : PlacedBox) × (slice_get other n ≡ Some c) × (c.events ≡ b.events)
other_box_has_same_events boxes other n b same at = slice_get_map_inverse (λ (x : PlacedBox). x.events) other n b.events
    (ap (λ (es : List EventBox). slice_get es n) same ∙ slice_get_of_map (λ (x : PlacedBox). x.events) boxes n b at)

-- its steps are there
box_has_span : (boxes : List PlacedBox) (spans : List Span) (n : ℕ) (b : PlacedBox) → length spans ≡ length boxes → slice_get boxes n ≡ Some b
    → (s : Span) × (slice_get spans n ≡ Some s)
box_has_span boxes spans n b size at =
    let within = slice_get_within boxes n b at in (get_or spans n no_span, slice_get-get_or spans n no_span (omega (arith, size, within)))

points_equal_by_parts : (p q : Point) → p.x ≡ q.x → p.u ≡ q.u → p ≡ q
points_equal_by_parts p q x u = λ i. record { x = x i; u = u i }

-- what a box needs is said of its events alone
ends_needed_by_events : (r : Recorded) (boxes : List PlacedBox) (number : Point → ℕ) (b c : PlacedBox) (z : ℕ) → b.events ≡ c.events
    → EndsNeeded r boxes number b z → EndsNeeded r boxes number c z
ends_needed_by_events r boxes number b c z same need = record {
  at = need.at;
  box = need.box;
  there = need.there;
  needs = subst (λ (e : EventBox). NeedsBox r e need.box.events) same need.needs;
  ends = need.ends;
}

has_to_be_left_by_events : (r : Recorded) (boxes : List PlacedBox) (spans : List Span) (b c : PlacedBox) (own : Span) (z : ℕ) → b.events ≡ c.events
    → HasToBeLeft r boxes spans b own z → HasToBeLeft r boxes spans c own z
has_to_be_left_by_events r boxes spans b c own z same (inl mark) = inl mark
has_to_be_left_by_events r boxes spans b c own z same (inr need) = inr (ends_needed_by_events r boxes (λ p. p.x) b c z same need)

comes_to_by_events : (r : Recorded) (boxes : List PlacedBox) (spans : List Span) (b c : PlacedBox) (own : Span) (z : ℕ) → b.events ≡ c.events
    → ComesTo r boxes spans b own z → ComesTo r boxes spans c own z
comes_to_by_events r boxes spans b c own z same (inl comes) = inl comes
comes_to_by_events r boxes spans b c own z same (inr need) = inr (need.0, ends_needed_by_events r boxes (λ p. p.u) b c need.0 same need.1, need.2)

-- ---- what is at rest

-- the start of a box is where it has to be, and not too far
pub record StartRests (r : Recorded) (boxes : List PlacedBox) (spans : List Span) (at : ℕ → ℕ → ℕ) (b : PlacedBox) (own : Span) : Type 0 where
  pub x : IsLeastAbove 0 (HasToBeLeft r boxes spans b own) b.start.x
  pub u : IsLeastFrom (own.first + 1) (ComesTo r boxes spans b own) b.start.u
  pub came : IsLeastFrom (own.first + 1) (ComesFrom boxes spans own.thread own.first) b.came
  pub low_x : b.start.x ≤ 2 * at own.thread own.first
  pub low_u : b.start.u ≤ at own.thread own.first + 1

-- so is its end
pub record EndRests (r : Recorded) (boxes : List PlacedBox) (spans : List Span) (at : ℕ → ℕ → ℕ) (b : PlacedBox) (own : Span) : Type 0 where
  pub x : (e : Event) → event_at r b.events.thread b.events.event ≡ Some e
      → IsLeastAbove (b.start.x + length_of e) (MarkedBefore boxes spans own.thread own.last) b.end.x
  pub u : IsLeastFrom b.start.u (ComesFrom boxes spans own.thread own.last) b.end.u
  pub low_x : b.end.x ≤ 2 * at own.thread own.last + 1
  pub low_u : b.end.u ≤ at own.thread own.last + 1

-- the starts and ends of boxes rest that have fewer than k others before them
pub record RestTo (r : Recorded) (boxes : List PlacedBox) (spans : List Span) (at : ℕ → ℕ → ℕ) (k : ℕ) : Type 0 where
  pub start : (n : ℕ) (b : PlacedBox) (own : Span) → slice_get boxes n ≡ Some b → slice_get spans n ≡ Some own
      → depth_of at spans (at own.thread own.first) < k → StartRests r boxes spans at b own
  pub end : (n : ℕ) (b : PlacedBox) (own : Span) → slice_get boxes n ≡ Some b → slice_get spans n ≡ Some own
      → depth_of at spans (at own.thread own.last) < k → EndRests r boxes spans at b own

pub all_rest_to_depth_zero : (r : Recorded) (boxes : List PlacedBox) (spans : List Span) (at : ℕ → ℕ → ℕ) → RestTo r boxes spans at 0
all_rest_to_depth_zero r boxes spans at = record {
  start = λ n b own is goes less. absurd (omega (arith, less));
  end = λ n b own is goes less. absurd (omega (arith, less));
}

-- all rest in the end
pub held_if_all_rest : (r : Recorded) (boxes : List PlacedBox) (spans : List Span) (at : ℕ → ℕ → ℕ) (k : ℕ) → length spans * 2 ≤ k → RestTo r boxes spans at k
    → (n : ℕ) (b : PlacedBox) (own : Span) → slice_get boxes n ≡ Some b → slice_get spans n ≡ Some own → IsHeld r boxes spans b own
held_if_all_rest r boxes spans at k all h n b own is goes =
    let first = depth_rises_past_start at spans n own (at own.thread own.first + 1) goes (omega arith) in
    let last = depth_rises_past_end at spans n own (at own.thread own.last + 1) goes (omega arith) in
    let one = depth_bound at spans (at own.thread own.first + 1) in
    let two = depth_bound at spans (at own.thread own.last + 1) in
    let start = h.start n b own is goes (omega (arith, first, one, all)) in
    let end = h.end n b own is goes (omega (arith, last, two, all)) in
    record { start_x = start.x; end_x = end.x; start_u = start.u; end_u = end.u; came = start.came }

-- ---- boxes that are alike

-- other boxes have the same events, and the same of those starts and ends that have fewer than k others before them
pub record AreAlike (boxes other : List PlacedBox) (spans : List Span) (at : ℕ → ℕ → ℕ) (k : ℕ) : Type 0 where
  pub events : events_of_all other ≡ events_of_all boxes
  pub start : (n : ℕ) (b c : PlacedBox) (own : Span) → slice_get boxes n ≡ Some b → slice_get other n ≡ Some c → slice_get spans n ≡ Some own
      → depth_of at spans (at own.thread own.first) < k → b.start ≡ c.start
  pub end : (n : ℕ) (b c : PlacedBox) (own : Span) → slice_get boxes n ≡ Some b → slice_get other n ≡ Some c → slice_get spans n ≡ Some own
      → depth_of at spans (at own.thread own.last) < k → b.end ≡ c.end

alike_boxes_symmetric : (boxes other : List PlacedBox) (spans : List Span) (at : ℕ → ℕ → ℕ) (k : ℕ) → AreAlike boxes other spans at k → AreAlike other boxes spans at k
alike_boxes_symmetric boxes other spans at k h = record {
  events = sym h.events;
  start = λ n b c own is_b is_c goes less. sym (h.start n c b own is_c is_b goes less);
  end = λ n b c own is_b is_c goes less. sym (h.end n c b own is_c is_b goes less);
}

-- a step of a thread before step i has fewer before it
depth_of_earlier_start : (r : Recorded) (events : List EventBox) (spans : List Span) (at : ℕ → ℕ → ℕ) (n : ℕ) (own : Span) (t j i k : ℕ)
    → IsPacing r events spans at → slice_get spans n ≡ Some own → own.thread ≡ t → j ≡ own.first → j < i → depth_of at spans (at t i) ≤ k
    → depth_of at spans (at own.thread own.first) < k
depth_of_earlier_start r events spans at n own t j i k s goes thread is less low =
    let up = s.rises t j i (omega (arith, less)) in
    let same : at own.thread own.first ≡ at t j = ap (λ v. at v own.first) thread ∙ ap (at t) (sym is) in
    let deep = depth_rises_past_start at spans n own (at t i) goes (omega (arith, up, same, less)) in
    omega (arith, deep, low)

depth_of_earlier_end : (r : Recorded) (events : List EventBox) (spans : List Span) (at : ℕ → ℕ → ℕ) (n : ℕ) (own : Span) (t j i k : ℕ)
    → IsPacing r events spans at → slice_get spans n ≡ Some own → own.thread ≡ t → j ≡ own.last → j < i → depth_of at spans (at t i) ≤ k
    → depth_of at spans (at own.thread own.last) < k
depth_of_earlier_end r events spans at n own t j i k s goes thread is less low =
    let up = s.rises t j i (omega (arith, less)) in
    let same : at own.thread own.last ≡ at t j = ap (λ v. at v own.last) thread ∙ ap (at t) (sym is) in
    let deep = depth_rises_past_end at spans n own (at t i) goes (omega (arith, up, same, less)) in
    omega (arith, deep, low)

mark_in_alike_boxes : (r : Recorded) (events : List EventBox) (boxes other : List PlacedBox) (spans : List Span) (at : ℕ → ℕ → ℕ) (k : ℕ)
    → AreAlike boxes other spans at k → IsPacing r events spans at → (t j i : ℕ) (p : Point) → j < i → depth_of at spans (at t i) ≤ k
    → IsMark boxes spans t j p → IsMark other spans t j p
mark_in_alike_boxes r events boxes other spans at k h s t j i p less low m =
    let there = other_box_has_same_events boxes other m.number m.box h.events m.there in
    record {
      number = m.number;
      box = there.0;
      own = m.own;
      there = there.1;
      goes = m.goes;
      thread = m.thread;
      is = elim m.is [
        | inl start ↦ inl (
          start.0,
          start.1
              ∙ h.start m.number m.box there.0 m.own m.there there.1 m.goes (depth_of_earlier_start r events spans at m.number m.own t j i k s m.goes m.thread start.0 less low),
        )
        | inr end ↦ inr (
          end.0,
          end.1
              ∙ h.end m.number m.box there.0 m.own m.there there.1 m.goes (depth_of_earlier_end r events spans at m.number m.own t j i k s m.goes m.thread end.0 less low),
        )
      ];
    }

marked_in_alike_boxes : (r : Recorded) (events : List EventBox) (boxes other : List PlacedBox) (spans : List Span) (at : ℕ → ℕ → ℕ) (k : ℕ)
    → AreAlike boxes other spans at k → IsPacing r events spans at → (t i z : ℕ) → depth_of at spans (at t i) ≤ k → MarkedBefore boxes spans t i z
    → MarkedBefore other spans t i z
marked_in_alike_boxes r events boxes other spans at k h s t i z low m = record {
  step = m.step;
  place = m.place;
  mark = mark_in_alike_boxes r events boxes other spans at k h s t m.step i m.place m.before low m.mark;
  before = m.before;
  x = m.x;
}

comes_in_alike_boxes : (r : Recorded) (events : List EventBox) (boxes other : List PlacedBox) (spans : List Span) (at : ℕ → ℕ → ℕ) (k : ℕ)
    → AreAlike boxes other spans at k → IsPacing r events spans at → (t i z : ℕ) → depth_of at spans (at t i) ≤ k → ComesFrom boxes spans t i z
    → ComesFrom other spans t i z
comes_in_alike_boxes r events boxes other spans at k h s t i z low m = record {
  step = m.step;
  place = m.place;
  mark = mark_in_alike_boxes r events boxes other spans at k h s t m.step i m.place m.before low m.mark;
  before = m.before;
  u = m.u;
}

-- what a box needs ends before it starts
needed_ends_before_start : (r : Recorded) (boxes : List PlacedBox) (spans : List Span) (at : ℕ → ℕ → ℕ) (n m : ℕ) (b a : PlacedBox) (own s : Span)
    → IsPacing r (events_of_all boxes) spans at → slice_get boxes n ≡ Some b → slice_get spans n ≡ Some own → slice_get boxes m ≡ Some a
    → slice_get spans m ≡ Some s → NeedsBox r b.events a.events → at s.thread s.last < at own.thread own.first
needed_ends_before_start r boxes spans at n m b a own s order is goes there to needs = order.needs m n a.events b.events s own
    (slice_get_of_map (λ (x : PlacedBox). x.events) boxes m a there) to (slice_get_of_map (λ (x : PlacedBox). x.events) boxes n b is) goes needs

needed_in_alike_boxes : (r : Recorded) (boxes other : List PlacedBox) (spans : List Span) (at : ℕ → ℕ → ℕ) (k : ℕ) → length spans ≡ length boxes
    → AreAlike boxes other spans at k → IsPacing r (events_of_all boxes) spans at → (number : Point → ℕ) (n : ℕ) (b c : PlacedBox) (own : Span) (z : ℕ)
    → slice_get boxes n ≡ Some b → slice_get spans n ≡ Some own → b.events ≡ c.events → depth_of at spans (at own.thread own.first) ≤ k
    → EndsNeeded r boxes number b z → EndsNeeded r other number c z
needed_in_alike_boxes r boxes other spans at k size h order number n b c own z is goes same low need =
    let there = other_box_has_same_events boxes other need.at need.box h.events need.there in
    let s = box_has_span boxes spans need.at need.box size need.there in
    let before = needed_ends_before_start r boxes spans at n need.at b need.box own s.0 order is goes need.there s.1 need.needs in
    let deep = depth_rises_past_end at spans need.at s.0 (at own.thread own.first) s.1 before in
    record {
      at = need.at;
      box = there.0;
      there = there.1;
      needs = subst (λ (e : EventBox). NeedsBox r e there.0.events) same (subst (λ (e : EventBox). NeedsBox r b.events e) (sym there.2) need.needs);
      ends = ap number (sym (h.end need.at need.box there.0 s.0 need.there there.1 s.1 (omega (arith, deep, low)))) ∙ need.ends;
    }

left_in_alike_boxes : (r : Recorded) (boxes other : List PlacedBox) (spans : List Span) (at : ℕ → ℕ → ℕ) (k : ℕ) → length spans ≡ length boxes
    → AreAlike boxes other spans at k → IsPacing r (events_of_all boxes) spans at → (n : ℕ) (b c : PlacedBox) (own : Span) (z : ℕ)
    → slice_get boxes n ≡ Some b → slice_get spans n ≡ Some own → b.events ≡ c.events → depth_of at spans (at own.thread own.first) ≤ k
    → HasToBeLeft r boxes spans b own z → HasToBeLeft r other spans c own z
left_in_alike_boxes r boxes other spans at k size h order n b c own z is goes same low (inl mark) =
    inl (marked_in_alike_boxes r (events_of_all boxes) boxes other spans at k h order own.thread own.first z low mark)
left_in_alike_boxes r boxes other spans at k size h order n b c own z is goes same low (inr need) =
    inr (needed_in_alike_boxes r boxes other spans at k size h order (λ p. p.x) n b c own z is goes same low need)

comes_to_in_alike_boxes : (r : Recorded) (boxes other : List PlacedBox) (spans : List Span) (at : ℕ → ℕ → ℕ) (k : ℕ) → length spans ≡ length boxes
    → AreAlike boxes other spans at k → IsPacing r (events_of_all boxes) spans at → (n : ℕ) (b c : PlacedBox) (own : Span) (z : ℕ)
    → slice_get boxes n ≡ Some b → slice_get spans n ≡ Some own → b.events ≡ c.events → depth_of at spans (at own.thread own.first) ≤ k
    → ComesTo r boxes spans b own z → ComesTo r other spans c own z
comes_to_in_alike_boxes r boxes other spans at k size h order n b c own z is goes same low (inl comes) =
    inl (comes_in_alike_boxes r (events_of_all boxes) boxes other spans at k h order own.thread own.first z low comes)
comes_to_in_alike_boxes r boxes other spans at k size h order n b c own z is goes same low (inr need) =
    inr (need.0, needed_in_alike_boxes r boxes other spans at k size h order (λ p. p.u) n b c own need.0 is goes same low need.1, need.2)

-- ---- boxes that are put once more are not too far

mark_point_bound : (r : Recorded) (events : List EventBox) (boxes : List PlacedBox) (spans : List Span) (at : ℕ → ℕ → ℕ) (k : ℕ) → RestTo r boxes spans at k
    → IsPacing r events spans at → (t j i : ℕ) (p : Point) → j < i → depth_of at spans (at t i) ≤ k → IsMark boxes spans t j p
    → (p.x ≤ 2 * at t j + 1) × (p.u ≤ at t j + 1)
mark_point_bound r events boxes spans at k h s t j i p less low m = elim m.is [
  | inl start ↦
      let rest = h.start m.number m.box m.own m.there m.goes (depth_of_earlier_start r events spans at m.number m.own t j i k s m.goes m.thread start.0 less low) in
      let same : at m.own.thread m.own.first ≡ at t j = ap (λ v. at v m.own.first) m.thread ∙ ap (at t) (sym start.0) in
      let low_x = rest.low_x in
      let low_u = rest.low_u in
      let x = ap (λ (q : Point). q.x) start.1 in
      let u = ap (λ (q : Point). q.u) start.1 in
      (omega (arith, low_x, same, x), omega (arith, low_u, same, u))
  | inr end ↦
      let rest = h.end m.number m.box m.own m.there m.goes (depth_of_earlier_end r events spans at m.number m.own t j i k s m.goes m.thread end.0 less low) in
      let same : at m.own.thread m.own.last ≡ at t j = ap (λ v. at v m.own.last) m.thread ∙ ap (at t) (sym end.0) in
      let low_x = rest.low_x in
      let low_u = rest.low_u in
      let x = ap (λ (q : Point). q.x) end.1 in
      let u = ap (λ (q : Point). q.u) end.1 in
      (omega (arith, low_x, same, x), omega (arith, low_u, same, u))
]

-- at which a box starts or ends before a step, and what it comes to
marked_point_bound : (r : Recorded) (events : List EventBox) (boxes : List PlacedBox) (spans : List Span) (at : ℕ → ℕ → ℕ) (k : ℕ) → RestTo r boxes spans at k
    → IsPacing r events spans at → (t i z : ℕ) → depth_of at spans (at t i) ≤ k → MarkedBefore boxes spans t i z → z < 2 * at t i
marked_point_bound r events boxes spans at k h s t i z low m =
    let x = (mark_point_bound r events boxes spans at k h s t m.step i m.place m.before low m.mark).0 in
    let before = m.before in
    let up = s.rises t m.step i (omega (arith, before)) in
    let same = m.x in
    omega (arith, x, before, up, same)

comes_from_bound : (r : Recorded) (events : List EventBox) (boxes : List PlacedBox) (spans : List Span) (at : ℕ → ℕ → ℕ) (k : ℕ) → RestTo r boxes spans at k
    → IsPacing r events spans at → (t i z : ℕ) → depth_of at spans (at t i) ≤ k → ComesFrom boxes spans t i z → z ≤ at t i + 1
comes_from_bound r events boxes spans at k h s t i z low m =
    let u = (mark_point_bound r events boxes spans at k h s t m.step i m.place m.before low m.mark).1 in
    let before = m.before in
    let up = s.rises t m.step i (omega (arith, before)) in
    let same = m.u in
    omega (arith, u, before, up, same)

-- so does what a box needs end
needed_point_bound : (r : Recorded) (boxes : List PlacedBox) (spans : List Span) (at : ℕ → ℕ → ℕ) (k : ℕ) → length spans ≡ length boxes → RestTo r boxes spans at k
    → IsPacing r (events_of_all boxes) spans at → (number : Point → ℕ) (n : ℕ) (b : PlacedBox) (own : Span) (z : ℕ) → slice_get boxes n ≡ Some b
    → slice_get spans n ≡ Some own → depth_of at spans (at own.thread own.first) ≤ k → EndsNeeded r boxes number b z
    → (p : Point) × (number p ≡ z) × (p.x < 2 * at own.thread own.first) × (p.u ≤ at own.thread own.first)
needed_point_bound r boxes spans at k size h order number n b own z is goes low need =
    let s = box_has_span boxes spans need.at need.box size need.there in
    let before = needed_ends_before_start r boxes spans at n need.at b need.box own s.0 order is goes need.there s.1 need.needs in
    let deep = depth_rises_past_end at spans need.at s.0 (at own.thread own.first) s.1 before in
    let rest = h.end need.at need.box s.0 need.there s.1 (omega (arith, deep, low)) in
    let x = rest.low_x in
    let u = rest.low_u in
    (need.box.end, need.ends, omega (arith, before, x), omega (arith, before, u))

-- a step has no greater number than its own
step_number_at_most_pace : (r : Recorded) (events : List EventBox) (spans : List Span) (at : ℕ → ℕ → ℕ) → IsPacing r events spans at → (t k : ℕ) → k ≤ at t k
step_number_at_most_pace r events spans at s t k = let up = s.rises t 0 k (omega arith) in omega (arith, up)

paced_first_before_last : (r : Recorded) (events : List EventBox) (spans : List Span) (at : ℕ → ℕ → ℕ) → IsPacing r events spans at → (n : ℕ) (own : Span)
    → slice_get spans n ≡ Some own → at own.thread own.first ≤ at own.thread own.last
paced_first_before_last r events spans at s n own goes = let up = s.rises own.thread own.first own.last (s.goes n own goes) in omega (arith, up)

held_start_bound : (r : Recorded) (boxes : List PlacedBox) (spans : List Span) (at : ℕ → ℕ → ℕ) (k : ℕ) → length spans ≡ length boxes → RestTo r boxes spans at k
    → IsPacing r (events_of_all boxes) spans at → (n : ℕ) (b q : PlacedBox) (own : Span) → slice_get boxes n ≡ Some b → slice_get spans n ≡ Some own
    → depth_of at spans (at own.thread own.first) ≤ k → q.events ≡ b.events → IsHeld r boxes spans q own
    → (q.start.x ≤ 2 * at own.thread own.first) × (q.start.u ≤ at own.thread own.first + 1)
held_start_bound r boxes spans at k size h order n b q own is goes low same held = (
  held.start_x.least (2 * at own.thread own.first) (omega arith) (λ z left. elim left [
    | inl mark ↦ marked_point_bound r (events_of_all boxes) boxes spans at k h order own.thread own.first z low mark
    | inr need ↦
        let p = needed_point_bound r boxes spans at k size h order (λ v. v.x) n b own z is goes low
        (ends_needed_by_events r boxes (λ v. v.x) q b z same need) in
        let ends = p.1 in
        let x = p.2 in
        omega (arith, ends, x)
  ]),
  held.start_u.least (at own.thread own.first + 1)
      (let by = step_number_at_most_pace r (events_of_all boxes) spans at order own.thread own.first in omega (arith, by)) (λ z comes. elim comes [
        | inl from ↦ comes_from_bound r (events_of_all boxes) boxes spans at k h order own.thread own.first z low from
        | inr need ↦
            let p = needed_point_bound r boxes spans at k size h order (λ v. v.u) n b own need.0 is goes low
            (ends_needed_by_events r boxes (λ v. v.u) q b need.0 same need.1) in
            let ends = p.1 in
            let u = p.3 in
            let is_z = need.2 in
            omega (arith, ends, u, is_z)
      ]),
)

held_end_bound : (r : Recorded) (events : List EventBox) (boxes : List PlacedBox) (spans : List Span) (at : ℕ → ℕ → ℕ) (k : ℕ) → RestTo r boxes spans at k
    → IsPacing r events spans at → (n : ℕ) (q : PlacedBox) (own : Span) (e : Event) → slice_get spans n ≡ Some own
    → event_at r q.events.thread q.events.event ≡ Some e → depth_of at spans (at own.thread own.last) ≤ k → IsHeld r boxes spans q own
    → q.start.x ≤ 2 * at own.thread own.first → q.start.u ≤ at own.thread own.first + 1
    → (q.end.x ≤ 2 * at own.thread own.last + 1) × (q.end.u ≤ at own.thread own.last + 1)
held_end_bound r events boxes spans at k h order n q own e goes is low held low_x low_u =
    let by = paced_first_before_last r events spans at order n own goes in
    let long = event_length_le_one e in (
      (held.end_x e is).least (2 * at own.thread own.last + 1) (omega (arith, by, long, low_x)) (λ z mark.
          let less = marked_point_bound r events boxes spans at k h order own.thread own.last z low mark in omega (arith, less)),
      held.end_u.least (at own.thread own.last + 1) (omega (arith, by, low_u)) (λ z from.
          comes_from_bound r events boxes spans at k h order own.thread own.last z low from),
    )

-- and doesn't end before its last step
held_end_is_past_last : (r : Recorded) (events : List EventBox) (boxes : List PlacedBox) (spans : List Span) (at : ℕ → ℕ → ℕ) → IsPacing r events spans at
    → AreNear boxes spans → (n : ℕ) (b q : PlacedBox) (own : Span) → slice_get boxes n ≡ Some b → slice_get spans n ≡ Some own
    → IsHeld r boxes spans q own → own.last ≤ q.end.u
held_end_is_past_last r events boxes spans at order near n b q own is goes held =
    let by = order.goes n own goes in
    let start = held.start_u.start in
    let end = held.end_u.start in
    elim (cases_lt own.first own.last) [
      | inl less ↦
          let late = (near.start n b own is goes).late in
          let up = held.end_u.above (b.start.u + (own.last - own.first)) (record {
            step = own.first;
            place = b.start;
            mark = record { number = n; box = b; own = own; there = is; goes = goes; thread = refl; is = inl (refl, refl) };
            before = less;
            u = refl;
          }) in
          omega (arith, by, late, up)
      | inr past ↦ omega (arith, past, start, end)
    ]

-- ---- boxes that rest are put where they are

held_start_is_own : (r : Recorded) (boxes : List PlacedBox) (spans : List Span) (at : ℕ → ℕ → ℕ) (b q : PlacedBox) (own : Span) → StartRests r boxes spans at b own
    → IsHeld r boxes spans q own → q.events ≡ b.events → b.start ≡ q.start
held_start_is_own r boxes spans at b q own rest held same = points_equal_by_parts b.start q.start
    (least_above_unique 0 (HasToBeLeft r boxes spans b own) b.start.x q.start.x rest.x
    (least_above_cong 0 (HasToBeLeft r boxes spans q own) (HasToBeLeft r boxes spans b own) q.start.x
    (λ z. has_to_be_left_by_events r boxes spans q b own z same) (λ z. has_to_be_left_by_events r boxes spans b q own z (sym same)) held.start_x))
    (least_from_unique (own.first + 1) (ComesTo r boxes spans b own) b.start.u q.start.u rest.u
    (least_from_cong (own.first + 1) (ComesTo r boxes spans q own) (ComesTo r boxes spans b own) q.start.u
    (λ z. comes_to_by_events r boxes spans q b own z same) (λ z. comes_to_by_events r boxes spans b q own z (sym same)) held.start_u))

held_end_is_own : (r : Recorded) (boxes : List PlacedBox) (spans : List Span) (at : ℕ → ℕ → ℕ) (b q : PlacedBox) (own : Span) (e : Event)
    → event_at r b.events.thread b.events.event ≡ Some e → EndRests r boxes spans at b own → IsHeld r boxes spans q own → q.events ≡ b.events
    → b.start ≡ q.start → b.end ≡ q.end
held_end_is_own r boxes spans at b q own e is rest held same start =
    let is_q = subst (λ (x : EventBox). event_at r x.thread x.event ≡ Some e) (sym same) is in
    points_equal_by_parts b.end q.end
    (least_above_unique (b.start.x + length_of e) (MarkedBefore boxes spans own.thread own.last) b.end.x q.end.x (rest.x e is)
    (subst (λ (p : Point). IsLeastAbove (p.x + length_of e) (MarkedBefore boxes spans own.thread own.last) q.end.x) (sym start) (held.end_x e is_q)))
    (least_from_unique b.start.u (ComesFrom boxes spans own.thread own.last) b.end.u q.end.u rest.u
    (subst (λ (p : Point). IsLeastFrom p.u (ComesFrom boxes spans own.thread own.last) q.end.u) (sym start) held.end_u))

put_boxes_are_alike : (r : Recorded) (boxes other : List PlacedBox) (spans : List Span) (at : ℕ → ℕ → ℕ) (k : ℕ) → AreBoxesOf r boxes
    → RestTo r boxes spans at k → IsPacing r (events_of_all boxes) spans at → AreNear boxes spans → ArePut r boxes spans other
    → AreAlike boxes other spans at k
put_boxes_are_alike r boxes other spans at k ok h order near put = record {
  events = put.events;
  start = λ n b c own is_b is_c goes less.
      let p = put.each n b c own is_b is_c goes in
      let same = held_start_is_own r boxes spans at b p.right own (h.start n b own is_b goes less) p.held p.same in
      same ∙ sym (p.start.same (subst (IsNear own.first) same (near.start n b own is_b goes)));
  end = λ n b c own is_b is_c goes less.
      let p = put.each n b c own is_b is_c goes in
      let by = depth_monotone at spans (at own.thread own.first) (at own.thread own.last) (paced_first_before_last r (events_of_all boxes) spans at order n own goes) in
      let start = held_start_is_own r boxes spans at b p.right own (h.start n b own is_b goes (omega (arith, by, less))) p.held p.same in
      let e = box_has_first_event r b.events (ok n b is_b) in
      let same = held_end_is_own r boxes spans at b p.right own e.0 e.1 (h.end n b own is_b goes less) p.held p.same start in
      same ∙ sym (p.end.same (subst (IsNear own.last) same (near.end n b own is_b goes)));
}

-- ---- and more of them rest

-- the start of a box that is put
put_start_is_right : (r : Recorded) (boxes : List PlacedBox) (spans : List Span) (at : ℕ → ℕ → ℕ) (k : ℕ) → length spans ≡ length boxes → RestTo r boxes spans at k
    → IsPacing r (events_of_all boxes) spans at → (n : ℕ) (b c : PlacedBox) (own : Span) → slice_get boxes n ≡ Some b → slice_get spans n ≡ Some own
    → depth_of at spans (at own.thread own.first) ≤ k → (p : IsPut r boxes spans own b c) → c.start ≡ p.right.start
put_start_is_right r boxes spans at k size h order n b c own is goes low p =
    let lows = held_start_bound r boxes spans at k size h order n b p.right own is goes low p.same p.held in
    let x = lows.0 in
    let u = lows.1 in
    let by = paced_first_before_last r (events_of_all boxes) spans at order n own goes in
    let top = order.low n own goes in
    let late = p.held.start_u.start in
    p.start.same (record { x = omega (arith, x, by, top); u = omega (arith, u, by, top); late = omega (arith, late) })

put_start_rests : (r : Recorded) (boxes other : List PlacedBox) (spans : List Span) (at : ℕ → ℕ → ℕ) (k : ℕ) → length spans ≡ length boxes
    → RestTo r boxes spans at k → IsPacing r (events_of_all boxes) spans at → AreAlike boxes other spans at k → length spans ≡ length other
    → (n : ℕ) (b c : PlacedBox) (own : Span) → slice_get boxes n ≡ Some b → slice_get other n ≡ Some c → slice_get spans n ≡ Some own
    → depth_of at spans (at own.thread own.first) ≤ k → IsPut r boxes spans own b c → StartRests r other spans at c own
put_start_rests r boxes other spans at k size h order alike more n b c own is_b is_c goes low p =
    let q = p.right in
    let same = put_start_is_right r boxes spans at k size h order n b c own is_b goes low p in
    let lows = held_start_bound r boxes spans at k size h order n b q own is_b goes low p.same p.held in
    let back = alike_boxes_symmetric boxes other spans at k alike in
    let order_back = subst (λ (es : List EventBox). IsPacing r es spans at) (sym alike.events) order in
    record {
      x = subst (λ (v : Point). IsLeastAbove 0 (HasToBeLeft r other spans c own) v.x) (sym same)
          (least_above_cong 0 (HasToBeLeft r boxes spans q own) (HasToBeLeft r other spans c own) q.start.x
          (λ z left. left_in_alike_boxes r boxes other spans at k size alike order n b c own z is_b goes (sym p.events) low
          (has_to_be_left_by_events r boxes spans q b own z p.same left))
          (λ z left. has_to_be_left_by_events r boxes spans b q own z (sym p.same)
          (left_in_alike_boxes r other boxes spans at k more back order_back n c b own z is_c goes p.events low left)) p.held.start_x);
      u = subst (λ (v : Point). IsLeastFrom (own.first + 1) (ComesTo r other spans c own) v.u) (sym same)
          (least_from_cong (own.first + 1) (ComesTo r boxes spans q own) (ComesTo r other spans c own) q.start.u
          (λ z comes. comes_to_in_alike_boxes r boxes other spans at k size alike order n b c own z is_b goes (sym p.events) low
          (comes_to_by_events r boxes spans q b own z p.same comes))
          (λ z comes. comes_to_by_events r boxes spans b q own z (sym p.same)
          (comes_to_in_alike_boxes r other boxes spans at k more back order_back n c b own z is_c goes p.events low comes)) p.held.start_u);
      came = subst (IsLeastFrom (own.first + 1) (ComesFrom other spans own.thread own.first)) (sym p.came)
          (least_from_cong (own.first + 1) (ComesFrom boxes spans own.thread own.first) (ComesFrom other spans own.thread own.first) q.came
          (λ z. comes_in_alike_boxes r (events_of_all boxes) boxes other spans at k alike order own.thread own.first z low)
          (λ z. comes_in_alike_boxes r (events_of_all boxes) other boxes spans at k back order own.thread own.first z low) p.held.came);
      low_x = (let x = lows.0 in let v = ap (λ (w : Point). w.x) same in omega (arith, x, v));
      low_u = (let u = lows.1 in let v = ap (λ (w : Point). w.u) same in omega (arith, u, v));
    }

put_end_rests : (r : Recorded) (boxes other : List PlacedBox) (spans : List Span) (at : ℕ → ℕ → ℕ) (k : ℕ) → AreBoxesOf r boxes → length spans ≡ length boxes
    → RestTo r boxes spans at k → IsPacing r (events_of_all boxes) spans at → AreNear boxes spans → AreAlike boxes other spans at k → (n : ℕ)
    (b c : PlacedBox) (own : Span) → slice_get boxes n ≡ Some b → slice_get spans n ≡ Some own → depth_of at spans (at own.thread own.last) ≤ k
    → IsPut r boxes spans own b c → EndRests r other spans at c own
put_end_rests r boxes other spans at k ok size h order near alike n b c own is_b goes low p =
    let q = p.right in
    let es = events_of_all boxes in
    let by = paced_first_before_last r es spans at order n own goes in
    let deep = depth_monotone at spans (at own.thread own.first) (at own.thread own.last) by in
    let low_first : depth_of at spans (at own.thread own.first) ≤ k = omega (arith, deep, low) in
    let start = put_start_is_right r boxes spans at k size h order n b c own is_b goes low_first p in
    let starts = held_start_bound r boxes spans at k size h order n b q own is_b goes low_first p.same p.held in
    let first = box_has_first_event r b.events (ok n b is_b) in
    let first_q = subst (λ (x : EventBox). event_at r x.thread x.event ≡ Some first.0) (sym p.same) first.1 in
    let lows = held_end_bound r es boxes spans at k h order n q own first.0 goes first_q low p.held starts.0 starts.1 in
    let x = lows.0 in
    let u = lows.1 in
    let top = order.low n own goes in
    let late = held_end_is_past_last r es boxes spans at order near n b q own is_b goes p.held in
    let same : c.end ≡ q.end = p.end.same (record { x = omega (arith, x, top); u = omega (arith, u, top); late = late }) in
    let back = alike_boxes_symmetric boxes other spans at k alike in
    record {
      x = λ e is. subst (λ (v : Point). IsLeastAbove (v.x + length_of e) (MarkedBefore other spans own.thread own.last) c.end.x) (sym start)
          (subst (λ (v : Point). IsLeastAbove (q.start.x + length_of e) (MarkedBefore other spans own.thread own.last) v.x) (sym same)
          (least_above_cong (q.start.x + length_of e) (MarkedBefore boxes spans own.thread own.last) (MarkedBefore other spans own.thread own.last) q.end.x
          (λ z. marked_in_alike_boxes r es boxes other spans at k alike order own.thread own.last z low)
          (λ z. marked_in_alike_boxes r es other boxes spans at k back order own.thread own.last z low)
          (p.held.end_x e (subst (λ (v : EventBox). event_at r v.thread v.event ≡ Some e) (p.events ∙ sym p.same) is))));
      u = subst (λ (v : Point). IsLeastFrom v.u (ComesFrom other spans own.thread own.last) c.end.u) (sym start)
          (subst (λ (v : Point). IsLeastFrom q.start.u (ComesFrom other spans own.thread own.last) v.u) (sym same)
          (least_from_cong q.start.u (ComesFrom boxes spans own.thread own.last) (ComesFrom other spans own.thread own.last) q.end.u
          (λ z. comes_in_alike_boxes r es boxes other spans at k alike order own.thread own.last z low)
          (λ z. comes_in_alike_boxes r es other boxes spans at k back order own.thread own.last z low) p.held.end_u));
      low_x = (let v = ap (λ (w : Point). w.x) same in omega (arith, x, v));
      low_u = (let v = ap (λ (w : Point). w.u) same in omega (arith, u, v));
    }

equal_events_equal_length : (boxes other : List PlacedBox) → events_of_all other ≡ events_of_all boxes → length other ≡ length boxes
equal_events_equal_length boxes other same =
    let a = length_of_map (λ (x : PlacedBox). x.events) other in
    let b = length_of_map (λ (x : PlacedBox). x.events) boxes in
    let c = ap (λ (es : List EventBox). length es) same in
    omega (arith, a, b, c)

pub rest_to_next_round : (r : Recorded) (boxes other : List PlacedBox) (spans : List Span) (at : ℕ → ℕ → ℕ) (k : ℕ) → AreBoxesOf r boxes
    → length spans ≡ length boxes → IsPacing r (events_of_all boxes) spans at → AreNear boxes spans → ArePut r boxes spans other
    → RestTo r boxes spans at k → RestTo r other spans at (k + 1)
rest_to_next_round r boxes other spans at k ok size order near put h =
    let alike = put_boxes_are_alike r boxes other spans at k ok h order near put in
    let long = equal_events_equal_length boxes other put.events in
    record {
      start = λ n c own is_c goes less.
          let b = other_box_has_same_events other boxes n c (sym put.events) is_c in
          put_start_rests r boxes other spans at k size h order alike (omega (arith, size, long)) n b.0 c own b.1 is_c goes (omega (arith, less))
          (put.each n b.0 c own b.1 is_c goes);
      end = λ n c own is_c goes less.
          let b = other_box_has_same_events other boxes n c (sym put.events) is_c in
          put_end_rests r boxes other spans at k ok size h order near alike n b.0 c own b.1 goes (omega (arith, less)) (put.each n b.0 c own b.1 is_c goes);
    }

-- boxes that are put are near, and boxes of the trace
pub put_boxes_are_near : (r : Recorded) (boxes other : List PlacedBox) (spans : List Span) → AreNear boxes spans → ArePut r boxes spans other → AreNear other spans
put_boxes_are_near r boxes other spans near put = record {
  first = near.first;
  last = near.last;
  start = λ n c own is_c goes.
      let b = other_box_has_same_events other boxes n c (sym put.events) is_c in (put.each n b.0 c own b.1 is_c goes).start.near (near.first n own goes);
  end = λ n c own is_c goes.
      let b = other_box_has_same_events other boxes n c (sym put.events) is_c in (put.each n b.0 c own b.1 is_c goes).end.near (near.last n own goes);
}

pub same_events_are_boxes : (r : Recorded) (boxes other : List PlacedBox) → events_of_all other ≡ events_of_all boxes → AreBoxesOf r boxes
    → AreBoxesOf r other
same_events_are_boxes r boxes other same ok n c is_c =
    let b = other_box_has_same_events other boxes n c (sym same) is_c in subst (IsBox r) b.2 (ok n b.0 b.1)

pub same_events_as_many : (boxes other : List PlacedBox) (n : ℕ) → events_of_all other ≡ events_of_all boxes → n ≡ length boxes → n ≡ length other
same_events_as_many boxes other n same size = let long = equal_events_equal_length boxes other same in omega (arith, size, long)
