-- Where the boxes end that have what an event needs.
use Rattle.std.proofs.Common.{◌≡◌, ℕ, zero, suc, ◌+◌, ◌-◌, ◌<◌, ◌≤◌, ◌⊎◌, inl, inr, max, Bool, ◌==◌, ◌&&◌, if◌then◌else◌, Some, List, length, refl, sym, ap, ◌∙◌, subst, arith, eq-eqb, ne_eqb}
use Rattle.std.specs.List.{slice_get}
use Rattle.std.proofs.lemmas.Bool.{cases_eq, cases_lt}
use Rattle.std.proofs.lemmas.Option.{same_Some, slice_get_within}
use Rattle.ir_log.specs.declared.event.Event.{Event}
use Rattle.ir_log.specs.declared.event.Event.TheVariants.{Answer, Read, Write, Try}
use Rattle.ir_trace.specs.Recorded.{Recorded}
use Rattle.ir_past.specs.Past.{event_at}
use Rattle.ir_picture.specs.Boxes.{IsInBox}
use Rattle.ir_picture.specs.Places.{IsLeastAbove}
use Rattle.ir_picture.specs.Placing.{first_point, later_of, right_of, version_in, unknown_version}
use Rattle.ir_picture.specs.declared.placed_box.Point.{Point}
use Rattle.ir_picture.specs.declared.placed_box.PlacedBox.{PlacedBox}
use Rattle.ir_picture.specs.declared.table.Version.{Version}
use Rattle.ir_picture.proofs.CallerLemmas.{least_above_cong, least_above_nothing, least_above_union}
use Rattle.ir_holds.specs.Needing.{Reads, Writes, MakesForNeed, NeedsLike, OneNeedsLike, EndsWith, IsAfterThese, place_in, HoldsEnds, with_end, with_read, with_write, EndsTo, IsAfterTo, HoldsTo}
use Rattle.ir_holds.specs.declared.needing.Ends.{Ends}

-- ---- sets of ends

-- a set with one number more
least_above_of_one_more : (from : ℕ) (A B : ℕ → Type 0) (y z : ℕ) → ((w : ℕ) → A w → B w) → B z → ((w : ℕ) → B w → A w ⊎ (w ≡ z)) → IsLeastAbove from A y
    → IsLeastAbove from B (max y (z + 1))
least_above_of_one_more from A B y z to is parts h = record {
  start = omega (arith, h.start);
  above = λ w b. elim (parts w b) [
    | inl a ↦ omega (arith, h.above w a)
    | inr same ↦ omega (arith, same)
  ];
  least = λ w low all. omega (arith, h.least w low (λ v a. all v (to v a)), all z is);
}

after_these_cong : (r : Recorded) (boxes : List PlacedBox) (A B : Event → Type 0) (p : Point) → ((e : Event) → A e → B e) → ((e : Event) → B e → A e)
    → IsAfterThese r boxes A p → IsAfterThese r boxes B p
after_these_cong r boxes A B p to back h = record {
  x = least_above_cong 0 (EndsWith r boxes (λ q. q.x) A) (EndsWith r boxes (λ q. q.x) B) p.x (wider A B to (λ q. q.x)) (wider B A back (λ q. q.x)) h.x;
  u = least_above_cong 1 (EndsWith r boxes (λ q. q.u) A) (EndsWith r boxes (λ q. q.u) B) p.u (wider A B to (λ q. q.u)) (wider B A back (λ q. q.u)) h.u;
}
  where
    wider : (C D : Event → Type 0) → ((e : Event) → C e → D e) → (number : Point → ℕ) (z : ℕ) → EndsWith r boxes number C z → EndsWith r boxes number D z
    wider C D of number z w = record {
      at = w.at;
      box = w.box;
      event = w.event;
      what = w.what;
      there = w.there;
      has = w.has;
      is = w.is;
      these = of w.what w.these;
      ends = w.ends;
    }

pub after_these_of_none : (r : Recorded) (boxes : List PlacedBox) (These : Event → Type 0) → ((e : Event) → These e → ⊥) → IsAfterThese r boxes These first_point
after_these_of_none r boxes These none = record {
  x = least_above_nothing 0 (EndsWith r boxes (λ q. q.x) These) (λ z w. none w.what w.these);
  u = least_above_nothing 1 (EndsWith r boxes (λ q. q.u) These) (λ z w. none w.what w.these);
}

pub after_these_of_union : (r : Recorded) (boxes : List PlacedBox) (A B C : Event → Type 0) (p q : Point) → ((e : Event) → A e → C e) → ((e : Event) → B e → C e)
    → ((e : Event) → C e → A e ⊎ B e) → IsAfterThese r boxes A p → IsAfterThese r boxes B q → IsAfterThese r boxes C (later_of p q)
after_these_of_union r boxes A B C p q of_a of_b parts h k = record {
  x = least_above_union 0 (EndsWith r boxes (λ o. o.x) A) (EndsWith r boxes (λ o. o.x) B) (EndsWith r boxes (λ o. o.x) C) p.x q.x
      (wider A of_a (λ o. o.x)) (wider B of_b (λ o. o.x)) (split (λ o. o.x)) h.x k.x;
  u = least_above_union 1 (EndsWith r boxes (λ o. o.u) A) (EndsWith r boxes (λ o. o.u) B) (EndsWith r boxes (λ o. o.u) C) p.u q.u
      (wider A of_a (λ o. o.u)) (wider B of_b (λ o. o.u)) (split (λ o. o.u)) h.u k.u;
}
  where
    wider : (D : Event → Type 0) → ((e : Event) → D e → C e) → (number : Point → ℕ) (z : ℕ) → EndsWith r boxes number D z → EndsWith r boxes number C z
    wider D of number z w = record {
      at = w.at;
      box = w.box;
      event = w.event;
      what = w.what;
      there = w.there;
      has = w.has;
      is = w.is;
      these = of w.what w.these;
      ends = w.ends;
    }

    split : (number : Point → ℕ) (z : ℕ) → EndsWith r boxes number C z → EndsWith r boxes number A z ⊎ EndsWith r boxes number B z
    split number z w = elim (parts w.what w.these) [
      | inl a ↦ inl (record { at = w.at; box = w.box; event = w.event; what = w.what; there = w.there; has = w.has; is = w.is; these = a; ends = w.ends })
      | inr b ↦ inr (record { at = w.at; box = w.box; event = w.event; what = w.what; there = w.there; has = w.has; is = w.is; these = b; ends = w.ends })
    ]

-- ---- one event more

ends_to_later_event : (r : Recorded) (boxes : List PlacedBox) (n m k : ℕ) (number : Point → ℕ) (These : Event → Type 0) → m ≤ k → (z : ℕ)
    → EndsTo r boxes n m number These z → EndsTo r boxes n k number These z
ends_to_later_event r boxes n m k number These low z w = record {
  one = w.one;
  early = elim w.early [
    | inl less ↦ inl less
    | inr here ↦ inr (here.0, omega (arith, here.1, low))
  ];
}

ends_to_next_parts : (r : Recorded) (boxes : List PlacedBox) (n m : ℕ) (number : Point → ℕ) (These : Event → Type 0) (b : PlacedBox) (what : Event)
    → slice_get boxes n ≡ Some b → event_at r b.events.thread m ≡ Some what → (z : ℕ) → EndsTo r boxes n (m + 1) number These z
    → EndsTo r boxes n m number These z ⊎ (These what × (z ≡ number b.end))
ends_to_next_parts r boxes n m number These b what there is z w = elim w.early [
  | inl less ↦ inl (record { one = w.one; early = inl less })
  | inr here ↦ elim (cases_lt w.one.event m) [
    | inl less ↦ inl (record { one = w.one; early = inr (here.0, less) })
    | inr past ↦
        let event : w.one.event ≡ m = omega (arith, here.1, past) in
        let box : w.one.box ≡ b = same_Some w.one.box b (sym w.one.there ∙ ap (slice_get boxes) here.0 ∙ there) in
        let same : w.one.what ≡ what = same_Some w.one.what what
        (sym w.one.is ∙ ap (λ (c : PlacedBox). event_at r c.events.thread w.one.event) box ∙ ap (event_at r b.events.thread) event ∙ is) in
        inr (subst These same w.one.these, sym w.one.ends ∙ ap (λ (c : PlacedBox). number c.end) box)
  ]
]

after_to_next_with : (r : Recorded) (boxes : List PlacedBox) (n m : ℕ) (These : Event → Type 0) (b : PlacedBox) (what : Event) (p : Point)
    → slice_get boxes n ≡ Some b → IsInBox b.events b.events.thread m → event_at r b.events.thread m ≡ Some what → These what → IsAfterTo r boxes n m These p
    → IsAfterTo r boxes n (m + 1) These (later_of p (right_of b.end))
after_to_next_with r boxes n m These b what p there has is these h = record {
  x = least_above_of_one_more 0 (EndsTo r boxes n m (λ q. q.x) These) (EndsTo r boxes n (m + 1) (λ q. q.x) These) p.x b.end.x
      (ends_to_later_event r boxes n m (m + 1) (λ q. q.x) These (omega arith)) (own (λ q. q.x)) (parts (λ q. q.x)) h.x;
  u = least_above_of_one_more 1 (EndsTo r boxes n m (λ q. q.u) These) (EndsTo r boxes n (m + 1) (λ q. q.u) These) p.u b.end.u
      (ends_to_later_event r boxes n m (m + 1) (λ q. q.u) These (omega arith)) (own (λ q. q.u)) (parts (λ q. q.u)) h.u;
}
  where
    own : (number : Point → ℕ) → EndsTo r boxes n (m + 1) number These (number b.end)
    own number = record {
      one = record { at = n; box = b; event = m; what = what; there = there; has = has; is = is; these = these; ends = refl };
      early = inr (refl, omega arith);
    }

    parts : (number : Point → ℕ) (z : ℕ) → EndsTo r boxes n (m + 1) number These z → EndsTo r boxes n m number These z ⊎ (z ≡ number b.end)
    parts number z w = elim (ends_to_next_parts r boxes n m number These b what there is z w) [
      | inl old ↦ inl old
      | inr new ↦ inr new.1
    ]

after_to_next_without : (r : Recorded) (boxes : List PlacedBox) (n m : ℕ) (These : Event → Type 0) (b : PlacedBox) (what : Event) (p : Point)
    → slice_get boxes n ≡ Some b → event_at r b.events.thread m ≡ Some what → (These what → ⊥) → IsAfterTo r boxes n m These p
    → IsAfterTo r boxes n (m + 1) These p
after_to_next_without r boxes n m These b what p there is none h = record {
  x = least_above_cong 0 (EndsTo r boxes n m (λ q. q.x) These) (EndsTo r boxes n (m + 1) (λ q. q.x) These) p.x
      (ends_to_later_event r boxes n m (m + 1) (λ q. q.x) These (omega arith)) (back (λ q. q.x)) h.x;
  u = least_above_cong 1 (EndsTo r boxes n m (λ q. q.u) These) (EndsTo r boxes n (m + 1) (λ q. q.u) These) p.u
      (ends_to_later_event r boxes n m (m + 1) (λ q. q.u) These (omega arith)) (back (λ q. q.u)) h.u;
}
  where
    back : (number : Point → ℕ) (z : ℕ) → EndsTo r boxes n (m + 1) number These z → EndsTo r boxes n m number These z
    back number z w = elim (ends_to_next_parts r boxes n m number These b what there is z w) [
      | inl old ↦ old
      | inr new ↦ absurd (none new.0)
    ]

-- the place that is noted, where the event is such an entry of object q at version w, and where it isn't
with_end_here : (q w : ℕ) (p : Point) (f : ℕ → ℕ → Point) (o v : ℕ) → o ≡ q → v ≡ w → with_end q w p f o v ≡ later_of (f o v) p
with_end_here q w p f o v at version = ap {B = Point} (λ (c : Bool). if c && (v == w) then later_of (f q w) p else f o v) (eq-eqb o q at)
    ∙ ap {B = Point} (λ (c : Bool). if c then later_of (f q w) p else f o v) (eq-eqb v w version)
    ∙ ap (λ k. later_of (f k w) p) (sym at) ∙ ap (λ k. later_of (f o k) p) (sym version)

with_end_other_object : (q w : ℕ) (p : Point) (f : ℕ → ℕ → Point) (o v : ℕ) → (o ≡ q → ⊥) → with_end q w p f o v ≡ f o v
with_end_other_object q w p f o v ne = ap {B = Point} (λ (c : Bool). if c && (v == w) then later_of (f q w) p else f o v) (ne_eqb o q ne)

with_end_other_version : (q w : ℕ) (p : Point) (f : ℕ → ℕ → Point) (o v : ℕ) → o ≡ q → (v ≡ w → ⊥) → with_end q w p f o v ≡ f o v
with_end_other_version q w p f o v at ne = ap {B = Point} (λ (c : Bool). if c && (v == w) then later_of (f q w) p else f o v) (eq-eqb o q at)
    ∙ ap {B = Point} (λ (c : Bool). if c then later_of (f q w) p else f o v) (ne_eqb v w ne)

-- an event whose entry of object q at version w is like These q w, and like no other
after_to_next_end : (r : Recorded) (boxes : List PlacedBox) (n m : ℕ) (These : ℕ → ℕ → Event → Type 0) (b : PlacedBox) (what : Event) (q w : ℕ)
    (f : ℕ → ℕ → Point) → slice_get boxes n ≡ Some b → IsInBox b.events b.events.thread m → event_at r b.events.thread m ≡ Some what → These q w what
    → ((o v : ℕ) → These o v what → (o ≡ q) × (v ≡ w)) → ((o v : ℕ) → IsAfterTo r boxes n m (These o v) (f o v))
    → (o v : ℕ) → IsAfterTo r boxes n (m + 1) (These o v) (with_end q w (right_of b.end) f o v)
after_to_next_end r boxes n m These b what q w f there has is these only h o v = elim (cases_eq o q) [
  | inl at ↦ elim (cases_eq v w) [
    | inl version ↦ subst (IsAfterTo r boxes n (m + 1) (These o v)) (sym (with_end_here q w (right_of b.end) f o v at version))
        (after_to_next_with r boxes n m (These o v) b what (f o v) there has is
        (subst (λ k. These k v what) (sym at) (subst (λ k. These q k what) (sym version) these)) (h o v))
    | inr ne ↦ subst (IsAfterTo r boxes n (m + 1) (These o v)) (sym (with_end_other_version q w (right_of b.end) f o v at ne))
        (after_to_next_without r boxes n m (These o v) b what (f o v) there is (λ t. ne (only o v t).1) (h o v))
  ]
  | inr ne ↦ subst (IsAfterTo r boxes n (m + 1) (These o v)) (sym (with_end_other_object q w (right_of b.end) f o v ne))
      (after_to_next_without r boxes n m (These o v) b what (f o v) there is (λ t. ne (only o v t).0) (h o v))
]

-- what an event says of itself
object_of : Event → ℕ
object_of (Answer kind value) = 0
object_of (Read o v) = o
object_of (Write o v l) = o
object_of (Try o) = o

version_of : Event → ℕ
version_of (Answer kind value) = 0
version_of (Read o v) = v
version_of (Write o v l) = v
version_of (Try o) = 0

reads_after_next_event : (r : Recorded) (boxes : List PlacedBox) (n m : ℕ) (b : PlacedBox) (what : Event) (f : ℕ → ℕ → Point) → slice_get boxes n ≡ Some b
    → IsInBox b.events b.events.thread m → event_at r b.events.thread m ≡ Some what → ((o v : ℕ) → IsAfterTo r boxes n m (Reads o v) (f o v))
    → (o v : ℕ) → IsAfterTo r boxes n (m + 1) (Reads o v) (with_read what (right_of b.end) f o v)
unfolding object_of version_of
reads_after_next_event r boxes n m b (Answer kind value) f there has is h o v =
    after_to_next_without r boxes n m (Reads o v) b (Answer kind value) (f o v) there is (λ e. cc) (h o v)
reads_after_next_event r boxes n m b (Read q w) f there has is h o v =
    after_to_next_end r boxes n m Reads b (Read q w) q w f there has is refl (λ p k e. (sym (ap object_of e), sym (ap version_of e))) h o v
reads_after_next_event r boxes n m b (Write q w l) f there has is h o v =
    after_to_next_without r boxes n m (Reads o v) b (Write q w l) (f o v) there is (λ e. cc) (h o v)
reads_after_next_event r boxes n m b (Try q) f there has is h o v =
    after_to_next_without r boxes n m (Reads o v) b (Try q) (f o v) there is (λ e. cc) (h o v)

writes_after_next_event : (r : Recorded) (boxes : List PlacedBox) (n m : ℕ) (b : PlacedBox) (what : Event) (f : ℕ → ℕ → Point) → slice_get boxes n ≡ Some b
    → IsInBox b.events b.events.thread m → event_at r b.events.thread m ≡ Some what → ((o v : ℕ) → IsAfterTo r boxes n m (Writes o v) (f o v))
    → (o v : ℕ) → IsAfterTo r boxes n (m + 1) (Writes o v) (with_write what (right_of b.end) f o v)
unfolding object_of version_of
writes_after_next_event r boxes n m b (Answer kind value) f there has is h o v =
    after_to_next_without r boxes n m (Writes o v) b (Answer kind value) (f o v) there is (λ d. let e = d.1 in cc) (h o v)
writes_after_next_event r boxes n m b (Read q w) f there has is h o v =
    after_to_next_without r boxes n m (Writes o v) b (Read q w) (f o v) there is (λ d. let e = d.1 in cc) (h o v)
writes_after_next_event r boxes n m b (Write q w l) f there has is h o v =
    after_to_next_end r boxes n m Writes b (Write q w l) q w f there has is (l, refl) (λ p k d. (sym (ap object_of d.1), sym (ap version_of d.1))) h o v
writes_after_next_event r boxes n m b (Try q) f there has is h o v =
    after_to_next_without r boxes n m (Writes o v) b (Try q) (f o v) there is (λ d. let e = d.1 in cc) (h o v)

-- the ends that are noted, where the event is noted
pub ends_hold_to_next_event : (r : Recorded) (boxes : List PlacedBox) (n m : ℕ) (b : PlacedBox) (what : Event) (old new : Ends) → slice_get boxes n ≡ Some b
    → IsInBox b.events b.events.thread m → event_at r b.events.thread m ≡ Some what
    → ((o v : ℕ) → place_in new.made o v ≡ with_write what (right_of b.end) (place_in old.made) o v)
    → ((o v : ℕ) → place_in new.left o v ≡ with_read what (right_of b.end) (place_in old.left) o v) → HoldsTo r boxes n m old → HoldsTo r boxes n (m + 1) new
ends_hold_to_next_event r boxes n m b what old new there has is made left h = record {
  made = λ o v. subst (IsAfterTo r boxes n (m + 1) (Writes o v)) (sym (made o v)) (writes_after_next_event r boxes n m b what (place_in old.made) there has is h.made o v);
  left = λ o v. subst (IsAfterTo r boxes n (m + 1) (Reads o v)) (sym (left o v)) (reads_after_next_event r boxes n m b what (place_in old.left) there has is h.left o v);
}

-- ---- one box more

after_to_of_equal_sets : (r : Recorded) (boxes : List PlacedBox) (n m k l : ℕ) (These : Event → Type 0) (p : Point)
    → ((number : Point → ℕ) (z : ℕ) → EndsTo r boxes n m number These z → EndsTo r boxes k l number These z)
    → ((number : Point → ℕ) (z : ℕ) → EndsTo r boxes k l number These z → EndsTo r boxes n m number These z) → IsAfterTo r boxes n m These p
    → IsAfterTo r boxes k l These p
after_to_of_equal_sets r boxes n m k l These p to back h = record {
  x = least_above_cong 0 (EndsTo r boxes n m (λ q. q.x) These) (EndsTo r boxes k l (λ q. q.x) These) p.x (to (λ q. q.x)) (back (λ q. q.x)) h.x;
  u = least_above_cong 1 (EndsTo r boxes n m (λ q. q.u) These) (EndsTo r boxes k l (λ q. q.u) These) p.u (to (λ q. q.u)) (back (λ q. q.u)) h.u;
}

-- before its first event nothing of a box is noted
pub ends_hold_to_first_event : (r : Recorded) (boxes : List PlacedBox) (n : ℕ) (b : PlacedBox) (ends : Ends) → slice_get boxes n ≡ Some b → HoldsTo r boxes n 0 ends
    → HoldsTo r boxes n b.events.event ends
ends_hold_to_first_event r boxes n b ends there h = record {
  made = λ o v. after_to_of_equal_sets r boxes n 0 n b.events.event (Writes o v) (place_in ends.made o v)
      (λ number z w. ends_to_later_event r boxes n 0 b.events.event number (Writes o v) (omega arith) z w) (λ number z w. none (Writes o v) number z w) (h.made o v);
  left = λ o v. after_to_of_equal_sets r boxes n 0 n b.events.event (Reads o v) (place_in ends.left o v)
      (λ number z w. ends_to_later_event r boxes n 0 b.events.event number (Reads o v) (omega arith) z w) (λ number z w. none (Reads o v) number z w) (h.left o v);
}
  where
    none : (These : Event → Type 0) (number : Point → ℕ) (z : ℕ) → EndsTo r boxes n b.events.event number These z → EndsTo r boxes n 0 number These z
    none These number z w = elim w.early [
      | inl less ↦ record { one = w.one; early = inl less }
      | inr here ↦
          let box : w.one.box ≡ b = same_Some w.one.box b (sym w.one.there ∙ ap (slice_get boxes) here.0 ∙ there) in
          absurd (omega (arith, here.1, w.one.has.from, ap (λ (c : PlacedBox). c.events.event) box))
    ]

-- behind its last event all of it is
pub ends_hold_to_next_box : (r : Recorded) (boxes : List PlacedBox) (n m : ℕ) (b : PlacedBox) (ends : Ends) → slice_get boxes n ≡ Some b → b.events.event + b.events.count ≤ m
    → HoldsTo r boxes n m ends → HoldsTo r boxes (n + 1) 0 ends
ends_hold_to_next_box r boxes n m b ends there all h = record {
  made = λ o v. after_to_of_equal_sets r boxes n m (n + 1) 0 (Writes o v) (place_in ends.made o v) (λ number z w. on (Writes o v) number z w)
      (λ number z w. back (Writes o v) number z w) (h.made o v);
  left = λ o v. after_to_of_equal_sets r boxes n m (n + 1) 0 (Reads o v) (place_in ends.left o v) (λ number z w. on (Reads o v) number z w)
      (λ number z w. back (Reads o v) number z w) (h.left o v);
}
  where
    on : (These : Event → Type 0) (number : Point → ℕ) (z : ℕ) → EndsTo r boxes n m number These z → EndsTo r boxes (n + 1) 0 number These z
    on These number z w = record {
      one = w.one;
      early = elim w.early [
        | inl less ↦ inl (omega (arith, less))
        | inr here ↦ inl (omega (arith, here.0))
      ];
    }

    back : (These : Event → Type 0) (number : Point → ℕ) (z : ℕ) → EndsTo r boxes (n + 1) 0 number These z → EndsTo r boxes n m number These z
    back These number z w = elim w.early [
      | inl less ↦ elim (cases_lt w.one.at n) [
        | inl before ↦ record { one = w.one; early = inl before }
        | inr past ↦
            let here : w.one.at ≡ n = omega (arith, less, past) in
            let box : w.one.box ≡ b = same_Some w.one.box b (sym w.one.there ∙ ap (slice_get boxes) here ∙ there) in
            record {
              one = w.one;
              early = inr (
                here,
                omega (
                  arith,
                  w.one.has.below,
                  all,
                  ap (λ (c : PlacedBox). c.events.event) box,
                  ap (λ (c : PlacedBox). c.events.count) box,
                ),
              );
            }
      ]
      | inr here ↦ absurd (omega (arith, here.1))
    ]

-- at first nothing is noted
pub ends_hold_to_first_box : (r : Recorded) (boxes : List PlacedBox) (ends : Ends) → ((o v : ℕ) → version_in ends.made o v ≡ unknown_version)
    → ((o v : ℕ) → version_in ends.left o v ≡ unknown_version) → HoldsTo r boxes 0 0 ends
ends_hold_to_first_box r boxes ends made left = record {
  made = λ o v. subst (IsAfterTo r boxes 0 0 (Writes o v)) (sym (ap (λ (x : Version). x.left) (made o v))) (none (Writes o v));
  left = λ o v. subst (IsAfterTo r boxes 0 0 (Reads o v)) (sym (ap (λ (x : Version). x.left) (left o v))) (none (Reads o v));
}
  where
    empty : (These : Event → Type 0) (number : Point → ℕ) (z : ℕ) → EndsTo r boxes 0 0 number These z → ⊥
    empty These number z w = elim w.early [
      | inl less ↦ omega (arith, less)
      | inr here ↦ omega (arith, here.1)
    ]

    none : (These : Event → Type 0) → IsAfterTo r boxes 0 0 These first_point
    none These = record {
      x = least_above_nothing 0 (EndsTo r boxes 0 0 (λ q. q.x) These) (empty These (λ q. q.x));
      u = least_above_nothing 1 (EndsTo r boxes 0 0 (λ q. q.u) These) (empty These (λ q. q.u));
    }

-- at last all is
pub ends_hold_for_all : (r : Recorded) (boxes : List PlacedBox) (n m : ℕ) (ends : Ends) → length boxes ≤ n → HoldsTo r boxes n m ends → HoldsEnds r boxes ends
ends_hold_for_all r boxes n m ends all h = record {
  made = λ o v. whole (Writes o v) (place_in ends.made o v) (h.made o v);
  left = λ o v. whole (Reads o v) (place_in ends.left o v) (h.left o v);
}
  where
    on : (These : Event → Type 0) (number : Point → ℕ) (z : ℕ) → EndsWith r boxes number These z → EndsTo r boxes n m number These z
    on These number z w = record { one = w; early = inl (omega (arith, slice_get_within boxes w.at w.box w.there, all)) }

    whole : (These : Event → Type 0) (p : Point) → IsAfterTo r boxes n m These p → IsAfterThese r boxes These p
    whole These p k = record {
      x = least_above_cong 0 (EndsTo r boxes n m (λ q. q.x) These) (EndsWith r boxes (λ q. q.x) These) p.x (λ z w. w.one) (on These (λ q. q.x)) k.x;
      u = least_above_cong 1 (EndsTo r boxes n m (λ q. q.u) These) (EndsWith r boxes (λ q. q.u) These) p.u (λ z w. w.one) (on These (λ q. q.u)) k.u;
    }

-- ---- what is needed

pub after_first_maker : (r : Recorded) (boxes : List PlacedBox) (o v : ℕ) → v ≡ 0 → IsAfterThese r boxes (MakesForNeed o v) first_point
after_first_maker r boxes o v first = after_these_of_none r boxes (MakesForNeed o v) (λ e m. let is = m.1 in omega (arith, is, first))

pub after_maker_of_version : (r : Recorded) (boxes : List PlacedBox) (ends : Ends) (o v : ℕ) → HoldsEnds r boxes ends → (v ≡ 0 → ⊥)
    → IsAfterThese r boxes (MakesForNeed o v) (place_in ends.made o (v - 1))
after_maker_of_version r boxes ends o zero h made = absurd (made refl)
after_maker_of_version r boxes ends o (suc w) h made =
    let same : w ≡ suc w - 1 = omega arith in
    subst (λ k. IsAfterThese r boxes (MakesForNeed o (suc w)) (place_in ends.made o k)) same
    (after_these_cong r boxes (Writes o w) (MakesForNeed o (suc w)) (place_in ends.made o w)
    (λ e is. (w, refl, is)) (λ e m. subst (λ k. Writes o k e) (let is = m.1 in omega (arith, is)) m.2) (h.made o w))

pub after_needs_of_write : (r : Recorded) (boxes : List PlacedBox) (ends : Ends) (o v l : ℕ) (p : Point) → HoldsEnds r boxes ends → IsAfterThese r boxes (MakesForNeed o v) p
    → IsAfterThese r boxes (NeedsLike (Write o v l)) (later_of p (place_in ends.left o v))
after_needs_of_write r boxes ends o v l p h made =
    after_these_of_union r boxes (MakesForNeed o v) (Reads o v) (NeedsLike (Write o v l)) p (place_in ends.left o v) (λ e m. inl m) (λ e d. inr d) (λ e w. w) made (h.left o v)

-- so of the first n of these events
abbrev pub FirstNeedLike : List Event → ℕ → Event → Type 0
FirstNeedLike es n e = (k : ℕ) × (x : Event) × (k < n) × (slice_get es k ≡ Some x) × NeedsLike x e

pub after_no_event_needs : (r : Recorded) (boxes : List PlacedBox) (es : List Event) → IsAfterThese r boxes (FirstNeedLike es 0) first_point
after_no_event_needs r boxes es = after_these_of_none r boxes (FirstNeedLike es 0) (λ e m. let less = m.2 in omega (arith, less))

pub after_needs_with_next : (r : Recorded) (boxes : List PlacedBox) (es : List Event) (n : ℕ) (x : Event) (p q : Point) → slice_get es n ≡ Some x
    → IsAfterThese r boxes (FirstNeedLike es n) p → IsAfterThese r boxes (NeedsLike x) q → IsAfterThese r boxes (FirstNeedLike es (n + 1)) (later_of p q)
after_needs_with_next r boxes es n x p q there h k =
    after_these_of_union r boxes (FirstNeedLike es n) (NeedsLike x) (FirstNeedLike es (n + 1)) p q
    (λ e m. (m.0, m.1, (let less = m.2 in omega (arith, less)), m.3, m.4)) (λ e m. (n, x, omega arith, there, m)) parts h k
  where
    parts : (e : Event) → FirstNeedLike es (n + 1) e → FirstNeedLike es n e ⊎ NeedsLike x e
    parts e m = elim (cases_lt m.0 n) [
      | inl less ↦ inl (m.0, m.1, less, m.3, m.4)
      | inr past ↦
          let less = m.2 in
          let here : m.0 ≡ n = omega (arith, less, past) in
          let same : m.1 ≡ x = same_Some m.1 x (sym m.3 ∙ ap (slice_get es) here ∙ there) in
          inr (subst (λ y. NeedsLike y e) same m.4)
    ]

pub after_needs_of_all_events : (r : Recorded) (boxes : List PlacedBox) (es : List Event) (n : ℕ) (p : Point) → length es ≤ n → IsAfterThese r boxes (FirstNeedLike es n) p
    → IsAfterThese r boxes (OneNeedsLike es) p
after_needs_of_all_events r boxes es n p all h = after_these_cong r boxes (FirstNeedLike es n) (OneNeedsLike es) p (λ e m. (m.0, m.1, m.3, m.4))
    (λ e m. (m.0, m.1, (let within = slice_get_within es m.0 m.1 m.2 in omega (arith, within, all)), m.2, m.3)) h
