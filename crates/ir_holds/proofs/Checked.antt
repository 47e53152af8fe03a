-- A box that starts and ends as near as it can is where it has to be.
use Rattle.std.proofs.Common.{◌≡◌, ℕ, zero, suc, ◌+◌, ◌-◌, ◌^◌, ◌<◌, ◌≤◌, inl, inr, Some, List, [], ◌∷◌, length, take, drop, refl, sym, ap, ◌∙◌, subst, arith}
use Rattle.std.specs.List.{slice_get}
use Rattle.std.proofs.lemmas.Bool.{cases_lt}
use Rattle.std.proofs.lemmas.Option.{none-some, same_Some, slice_get_within, slice_get-get_or}
use Rattle.ir_log.specs.declared.event.Event.{Event}
use Rattle.ir_log.specs.declared.event.Event.TheVariants.{Answer, Read, Write, Try}
use Rattle.ir_trace.specs.Recorded.{Recorded, recorded_thread}
use Rattle.ir_past.specs.Past.{event_at}
use Rattle.ir_picture.specs.Boxes.{IsInBox}
use Rattle.ir_picture.specs.Needs.{Needs}
use Rattle.ir_picture.specs.Numbers.{events_in}
use Rattle.ir_picture.specs.Places.{IsLeastAbove, EndsNeeded, length_of}
use Rattle.ir_picture.specs.declared.event_box.EventBox.{EventBox}
use Rattle.ir_picture.specs.declared.placed_box.Point.{Point}
use Rattle.ir_picture.specs.declared.placed_box.PlacedBox.{PlacedBox}
use Rattle.ir_holds.specs.Held.{IsLeastFrom, MarkedBefore, ComesFrom, IsHeld}
use Rattle.ir_holds.specs.Needing.{NeedsLike, OneNeedsLike, EndsWith, IsAfterThese}
use Rattle.ir_holds.specs.Stops.{HoldsMarks}
use Rattle.ir_holds.specs.Checks.{IsSpot}
use Rattle.ir_holds.proofs.Defaults.{no_span}
use Rattle.ir_holds.proofs.Noted.{noted_boxes_are_near}
use Rattle.ir_holds.specs.declared.marks.Marks.{Marks}
use Rattle.ir_holds.specs.declared.span.Span.{Span}
use Rattle.ir_holds.specs.declared.spot.Spot.{Spot}

-- ---- the events of a box

slice_get_of_dropped : {X : Type 0} (xs : List X) (n k : ℕ) (x : X) → slice_get (drop n xs) k ≡ Some x → slice_get xs (n + k) ≡ Some x
slice_get_of_dropped xs zero k x is = let same : k ≡ 0 + k = omega arith in subst (λ z. slice_get xs z ≡ Some x) same is
slice_get_of_dropped [] (suc n) k x is = absurd (none-some x is)
slice_get_of_dropped (y ∷ ys) (suc n) k x is =
    let same : suc (n + k) ≡ suc n + k = omega arith in subst (λ z. slice_get (y ∷ ys) z ≡ Some x) same (slice_get_of_dropped ys n k x is)

dropped_slice_get : {X : Type 0} (xs : List X) (n k : ℕ) (x : X) → slice_get xs (n + k) ≡ Some x → slice_get (drop n xs) k ≡ Some x
dropped_slice_get xs zero k x is = let same : 0 + k ≡ k = omega arith in subst (λ z. slice_get xs z ≡ Some x) same is
dropped_slice_get [] (suc n) k x is = absurd (none-some x is)
dropped_slice_get (y ∷ ys) (suc n) k x is =
    let same : suc n + k ≡ suc (n + k) = omega arith in dropped_slice_get ys n k x (subst (λ z. slice_get (y ∷ ys) z ≡ Some x) same is)

slice_get_of_taken : {X : Type 0} (xs : List X) (n k : ℕ) (x : X) → slice_get (take n xs) k ≡ Some x → (k < n) × (slice_get xs k ≡ Some x)
slice_get_of_taken [] zero k x is = absurd (none-some x is)
slice_get_of_taken [] (suc n) k x is = absurd (none-some x is)
slice_get_of_taken (y ∷ ys) zero k x is = absurd (none-some x is)
slice_get_of_taken (y ∷ ys) (suc n) zero x is = (omega arith, is)
slice_get_of_taken (y ∷ ys) (suc n) (suc k) x is = let r = slice_get_of_taken ys n k x is in ((let l = r.0 in omega (arith, l)), r.1)

taken_slice_get : {X : Type 0} (xs : List X) (n k : ℕ) (x : X) → k < n → slice_get xs k ≡ Some x → slice_get (take n xs) k ≡ Some x
taken_slice_get [] n k x less is = absurd (none-some x is)
taken_slice_get (y ∷ ys) zero k x less is = absurd (omega (arith, less))
taken_slice_get (y ∷ ys) (suc n) zero x less is = is
taken_slice_get (y ∷ ys) (suc n) (suc k) x less is = taken_slice_get ys n k x (omega (arith, less)) is

event_in_box_is_in_list : (r : Recorded) (b : EventBox) (i : ℕ) (e : Event) → IsInBox b b.thread i → event_at r b.thread i ≡ Some e
    → slice_get (events_in r b) (i - b.event) ≡ Some e
event_in_box_is_in_list r b i e has is =
    let from = has.from in
    let below = has.below in
    let es : List Event = (recorded_thread r b.thread).events in
    let same : i ≡ b.event + (i - b.event) = omega (arith, from) in
    taken_slice_get (drop b.event es) b.count (i - b.event) e (omega (arith, from, below))
    (dropped_slice_get es b.event (i - b.event) e (subst (λ k. slice_get es k ≡ Some e) same is))

event_in_list_is_in_box : (r : Recorded) (b : EventBox) (k : ℕ) (e : Event) → slice_get (events_in r b) k ≡ Some e
    → IsInBox b b.thread (b.event + k) × (event_at r b.thread (b.event + k) ≡ Some e)
event_in_list_is_in_box r b k e is =
    let es : List Event = (recorded_thread r b.thread).events in
    let got = slice_get_of_taken (drop b.event es) b.count k e is in
    let less = got.0 in (
      record { thread = refl; from = omega arith; below = omega (arith, less) },
      slice_get_of_dropped es b.event k e got.1,
    )

-- ---- what a box needs

need_is_alike_need : (r : Recorded) (t i u j : ℕ) (a e : Event) → event_at r t i ≡ Some a → event_at r u j ≡ Some e → Needs r t i u j → NeedsLike a e
need_is_alike_need r t i u j a e is_a is_e (inl m) = elim m.entry [
  | inl read ↦ subst (λ x. NeedsLike x e) (same_Some (Read m.object (suc m.version)) a (sym read ∙ is_a))
      (m.version, refl, (m.readers, same_Some e (Write m.object m.version m.readers) (sym is_e ∙ m.made)))
  | inr write ↦ subst (λ x. NeedsLike x e) (same_Some (Write m.object (suc m.version) write.0) a (sym write.1 ∙ is_a))
      (inl (m.version, refl, (m.readers, same_Some e (Write m.object m.version m.readers) (sym is_e ∙ m.made))))
]
need_is_alike_need r t i u j a e is_a is_e (inr d) = subst (λ x. NeedsLike x e) (same_Some (Write d.object d.version d.readers) a (sym d.write ∙ is_a))
    (inr (same_Some e (Read d.object d.version) (sym is_e ∙ d.read)))

alike_need_is_need : (r : Recorded) (t i u j : ℕ) (a e : Event) → event_at r t i ≡ Some a → event_at r u j ≡ Some e → NeedsLike a e → Needs r t i u j
alike_need_is_need r t i u j (Answer kind value) e is_a is_e like = absurd like
alike_need_is_need r t i u j (Read o v) e is_a is_e like = inl record {
  object = o;
  version = like.0;
  readers = like.2.0;
  entry = inl (is_a ∙ ap (λ k. Some (Read o k)) like.1);
  made = is_e ∙ ap Some like.2.1;
}
alike_need_is_need r t i u j (Write o v l) e is_a is_e (inl m) = inl record {
  object = o;
  version = m.0;
  readers = m.2.0;
  entry = inr (l, is_a ∙ ap (λ k. Some (Write o k l)) m.1);
  made = is_e ∙ ap Some m.2.1;
}
alike_need_is_need r t i u j (Write o v l) e is_a is_e (inr d) = inr record { object = o; version = v; readers = l; write = is_a; read = is_e ∙ ap Some d }
alike_need_is_need r t i u j (Try o) e is_a is_e like = absurd like

-- an event that is needed is there
needed_events_are_there : (r : Recorded) (t i u j : ℕ) → Needs r t i u j → ((a : Event) × (event_at r t i ≡ Some a)) × ((e : Event) × (event_at r u j ≡ Some e))
needed_events_are_there r t i u j (inl m) = (
  elim m.entry [
    | inl read ↦ (Read m.object (suc m.version), read)
    | inr write ↦ (Write m.object (suc m.version) write.0, write.1)
  ],
  (Write m.object m.version m.readers, m.made),
)
needed_events_are_there r t i u j (inr d) = ((Write d.object d.version d.readers, d.write), (Read d.object d.version, d.read))

ends_needed_with : (r : Recorded) (boxes : List PlacedBox) (number : Point → ℕ) (b : PlacedBox) (z : ℕ) → EndsNeeded r boxes number b z
    → EndsWith r boxes number (OneNeedsLike (events_in r b.events)) z
ends_needed_with r boxes number b z n =
    let needs = n.needs in
    let t = b.events.thread in
    let u = n.box.events.thread in
    let there = needed_events_are_there r t needs.event u needs.needed needs.needs in
    let a = there.0.0 in
    let e = there.1.0 in
    record {
      at = n.at;
      box = n.box;
      event = needs.needed;
      what = e;
      there = n.there;
      has = needs.other;
      is = there.1.1;
      these = (
        needs.event - b.events.event,
        a,
        event_in_box_is_in_list r b.events needs.event a needs.own there.0.1,
        need_is_alike_need r t needs.event u needs.needed a e there.0.1 there.1.1 needs.needs,
      );
      ends = n.ends;
    }

ends_with_needed : (r : Recorded) (boxes : List PlacedBox) (number : Point → ℕ) (b : PlacedBox) (z : ℕ)
    → EndsWith r boxes number (OneNeedsLike (events_in r b.events)) z → EndsNeeded r boxes number b z
ends_with_needed r boxes number b z w =
    let own = event_in_list_is_in_box r b.events w.these.0 w.these.1 w.these.2 in
    record {
      at = w.at;
      box = w.box;
      there = w.there;
      needs = record {
        event = b.events.event + w.these.0;
        needed = w.event;
        own = own.0;
        other = w.has;
        needs = alike_need_is_need r b.events.thread (b.events.event + w.these.0) w.box.events.thread w.event w.these.1 w.what own.1 w.is w.these.3;
      };
      ends = w.ends;
    }

-- ---- a box

-- what is needed isn't too far
pub needed_place_is_small : (r : Recorded) (boxes : List PlacedBox) (spans : List Span) (m : Marks) (These : Event → Type 0) (p : Point) → length spans ≡ length boxes
    → HoldsMarks boxes spans m → IsAfterThese r boxes These p → p.x ≤ 2 ^ 54
needed_place_is_small r boxes spans m These p size holds after = after.x.least (2 ^ 54) (omega arith) (λ z w.
    let within = slice_get_within boxes w.at w.box w.there in
    let goes = slice_get-get_or spans w.at no_span (omega (arith, size, within)) in
    let x = (noted_boxes_are_near boxes spans m w.at w.box _ holds w.there goes).1.x in
    let ends = w.ends in
    omega (arith, x, ends))

pub held_if_places_equal : (r : Recorded) (boxes : List PlacedBox) (spans : List Span) (b : PlacedBox) (own : Span) (needed : Point) (e : Event) (s : Spot)
    → event_at r b.events.thread b.events.event ≡ Some e → IsAfterThese r boxes (OneNeedsLike (events_in r b.events)) needed
    → IsSpot boxes spans own needed (length_of e) s → b.start ≡ s.start → b.end ≡ s.end → b.came ≡ s.came → IsHeld r boxes spans b own
held_if_places_equal r boxes spans b own needed e s first after spot at to by =
    let at_x : b.start.x ≡ s.start.x = ap (λ (p : Point). p.x) at in
    let at_u : b.start.u ≡ s.start.u = ap (λ (p : Point). p.u) at in
    let to_x : b.end.x ≡ s.end.x = ap (λ (p : Point). p.x) to in
    let to_u : b.end.u ≡ s.end.u = ap (λ (p : Point). p.u) to in
    let is_x = spot.start_x in
    let is_u = spot.start_u in
    let needs_x = after.x in
    let needs_u = after.u in
    let came = spot.came in
    record {
      start_x = record {
        start = omega arith;
        above = λ z c. elim c [
          | inl mark ↦ let less = spot.of_marks.above z mark in omega (arith, less, is_x, at_x)
          | inr need ↦
              let less = needs_x.above z (ends_needed_with r boxes (λ q. q.x) b z need) in
              omega (arith, less, is_x, at_x)
        ];
        least = λ w low all.
            let marks = spot.of_marks.least w low (λ z mark. all z (inl mark)) in
            let needs = needs_x.least w low (λ z need. all z (inr (ends_with_needed r boxes (λ q. q.x) b z need))) in
            omega (arith, marks, needs, is_x, at_x);
      };
      end_x = λ d is.
          let long : length_of e ≡ length_of d = ap length_of (same_Some e d (sym first ∙ is)) in
          let from : s.start.x + length_of e ≡ b.start.x + length_of d = omega (arith, at_x, long) in
          subst (λ y. IsLeastAbove y (MarkedBefore boxes spans own.thread own.last) b.end.x) from
          (subst (IsLeastAbove (s.start.x + length_of e) (MarkedBefore boxes spans own.thread own.last)) (sym to_x) spot.end_x);
      start_u = record {
        start = let low = came.start in omega (arith, low, is_u, at_u);
        above = λ z c. elim c [
          | inl comes ↦ let up = came.above z comes in omega (arith, up, is_u, at_u)
          | inr need ↦
              let less = needs_u.above need.0 (ends_needed_with r boxes (λ q. q.u) b need.0 need.1) in
              let same = need.2 in
              omega (arith, less, same, is_u, at_u)
        ];
        least = λ w low all.
            let comes = came.least w low (λ z come. all z (inl come)) in
            let needs = needs_u.least w (omega (arith, low)) (λ z need.
            let up = all (z + 1) (inr (z, ends_with_needed r boxes (λ q. q.u) b z need, refl)) in omega (arith, up)) in
            omega (arith, comes, needs, is_u, at_u);
      };
      end_u = subst (λ y. IsLeastFrom y (ComesFrom boxes spans own.thread own.last) b.end.u) (sym at_u)
          (subst (IsLeastFrom s.start.u (ComesFrom boxes spans own.thread own.last)) (sym to_u) spot.end_u);
      came = subst (IsLeastFrom (own.first + 1) (ComesFrom boxes spans own.thread own.first)) (sym by) came;
    }

pub held_boxes_equal : (a b : PlacedBox) → a.events ≡ b.events → a.start ≡ b.start → a.end ≡ b.end → a.came ≡ b.came → a.row ≡ b.row → a ≡ b
held_boxes_equal a b events start end came row = λ i. record { events = events i; start = start i; end = end i; came = came i; row = row i }

-- so far as boxes are looked at
pub held_with_next_box : (r : Recorded) (boxes : List PlacedBox) (spans : List Span) (n : ℕ)
    → ((k : ℕ) (b : PlacedBox) (s : Span) → k < n → slice_get boxes k ≡ Some b → slice_get spans k ≡ Some s → IsHeld r boxes spans b s)
    → ((b : PlacedBox) (s : Span) → slice_get boxes n ≡ Some b → slice_get spans n ≡ Some s → IsHeld r boxes spans b s)
    → (k : ℕ) (b : PlacedBox) (s : Span) → k < n + 1 → slice_get boxes k ≡ Some b → slice_get spans k ≡ Some s → IsHeld r boxes spans b s
held_with_next_box r boxes spans n h here k b s less at there = elim (cases_lt k n) [
  | inl before ↦ h k b s before at there
  | inr past ↦
      let same : k ≡ n = omega (arith, less, past) in
      here b s (subst (λ z. slice_get boxes z ≡ Some b) same at) (subst (λ z. slice_get spans z ≡ Some s) same there)
]
