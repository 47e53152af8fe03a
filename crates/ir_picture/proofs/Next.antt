-- One more box is placed.
use Rattle.std.proofs.Common.{◌≡◌, ℕ, suc, zero, ◌+◌, ◌<◌, ◌≤◌, inl, inr, Some, List, [], ◌∷◌, take, drop, length, slice_set, refl, sym, ap, ◌∙◌, subst, arith}
use Rattle.std.specs.Prelude.{slice_get}
use Rattle.std.proofs.lemmas.Bool.{cases_eq, cases_lt}
use Rattle.std.proofs.lemmas.Option.{none-some, slice_get_within}
use Rattle.ir_lemmas.proofs.CallerLemmas.{element_below_length}
use Rattle.ir_log.specs.declared.event.Event.{Event}
use Rattle.ir_trace.specs.Recorded.{Recorded, recorded_thread}
use Rattle.ir_past.specs.Past.{event_at}
use Rattle.ir_past.specs.Answers.{AreCoherent}
use Rattle.ir_picture.specs.Needs.{Needs, placed, CanFollowBox}
use Rattle.ir_picture.specs.Boxes.{IsInBox, IsBox, AreBoxes}
use Rattle.ir_picture.specs.Numbers.{events_in}
use Rattle.ir_picture.specs.Places.{IsPlacedBox}
use Rattle.ir_picture.specs.Placing.{Knows, EndsWhere, IsAfterBox, IsOf, IsPlacingCut, IsLaneAt, HasRoomForBox, IsNearBox, AreBeingPlaced}
use Rattle.ir_picture.specs.Placing.{after_needs, noted_all, right_of, box_at, left_of, events_of_all}
use Rattle.ir_picture.specs.declared.event_box.EventBox.{EventBox}
use Rattle.ir_picture.specs.declared.placed_box.Point.{Point}
use Rattle.ir_picture.specs.declared.placed_box.PlacedBox.{PlacedBox}
use Rattle.ir_picture.specs.declared.table.Version.{Version}
use Rattle.ir_picture.specs.declared.placing.Lane.{Lane}
use Rattle.ir_picture.proofs.Lists.{slice_get_after_set, slice_get_set_split, length_of_slice_set, slice_get_of_map, map_set_same_image}
use Rattle.ir_picture.proofs.Least.{after_other_box_set}
use Rattle.ir_picture.proofs.Orders.{needed_event_is_placed}
use Rattle.ir_picture.proofs.Follows.{known_place_can_follow}
use Rattle.ir_picture.proofs.Cuts.{cut_box_begins_at_event, cut_after_next_box}
use Rattle.ir_picture.proofs.Known.{knows_after_unplaced}
use Rattle.ir_picture.proofs.Steps.{OrderReaches, order_reaches_box_end}
use Rattle.ir_picture.proofs.Placed.{IsPlacedByEvents, placed_by_events_placed, placed_is_by_events, stays_placed_after_set, new_box_by_events, needs_place_after_needed}
use Rattle.ir_picture.proofs.Room.{NearVersion, left_of_next_box, near_with_fewer_boxes, near_box_end, near_after_noted_all, needed_place_is_near}

-- ---- the events of a box

slice_get_of_drop : {X : Type 0} (i m : ℕ) (xs : List X) (x : X) → slice_get (drop i xs) m ≡ Some x → slice_get xs (i + m) ≡ Some x
slice_get_of_drop zero m xs x is =
    let same : m ≡ 0 + m = omega arith in
    subst (λ n. slice_get xs n ≡ Some x) same is
slice_get_of_drop (suc i) m [] x is = absurd (none-some x is)
slice_get_of_drop (suc i) m (y ∷ ys) x is =
    let same : suc (i + m) ≡ suc i + m = omega arith in
    subst (λ n. slice_get (y ∷ ys) n ≡ Some x) same (slice_get_of_drop i m ys x is)

slice_get_of_take : {X : Type 0} (n m : ℕ) (xs : List X) (x : X) → slice_get (take n xs) m ≡ Some x → slice_get xs m ≡ Some x
slice_get_of_take zero m xs x is = absurd (none-some x is)
slice_get_of_take (suc n) m [] x is = absurd (none-some x is)
slice_get_of_take (suc n) zero (y ∷ ys) x is = is
slice_get_of_take (suc n) (suc m) (y ∷ ys) x is = slice_get_of_take n m ys x is

length_of_take_zero : {X : Type 0} (n : ℕ) (xs : List X) → n ≡ 0 → length (take n xs) ≡ n
length_of_take_zero zero xs e = refl
length_of_take_zero (suc n) xs e = absurd (omega (arith, e))

length_of_take_of_drop : {X : Type 0} (i n : ℕ) (xs : List X) → i + n ≤ length xs → length (take n (drop i xs)) ≡ n
length_of_take_of_drop zero zero xs l = refl
length_of_take_of_drop zero (suc n) [] l = absurd (omega (arith, l))
length_of_take_of_drop zero (suc n) (x ∷ xs) l = ap suc (length_of_take_of_drop 0 n xs (omega (arith, l)))
length_of_take_of_drop {X} (suc i) n [] l = let none : List X = [] in length_of_take_zero n none (omega (arith, l))
length_of_take_of_drop (suc i) n (x ∷ xs) l = length_of_take_of_drop i n xs (omega (arith, l))

pub event_at_of_box_event : (r : Recorded) (b : EventBox) (m : ℕ) (e : Event) → slice_get (events_in r b) m ≡ Some e → event_at r b.thread (b.event + m) ≡ Some e
event_at_of_box_event r b m e is = slice_get_of_drop b.event m (recorded_thread r b.thread).events e (slice_get_of_take b.count m (drop b.event (recorded_thread r b.thread).events) e is)

pub length-events_in : (r : Recorded) (b : EventBox) → IsBox r b → length (events_in r b) ≡ b.count
length-events_in r b is = length_of_take_of_drop b.event b.count (recorded_thread r b.thread).events is.within

-- ---- boxes whose first event is placed

-- such a box is placed whole
begun_box_is_whole : (r : Recorded) (boxes : List PlacedBox) (lanes : List Lane) (f : ℕ → ℕ → Version) (h : AreBeingPlaced r boxes lanes f) (m : ℕ) (a : PlacedBox)
    → slice_get boxes m ≡ Some a → a.events.event < placed h.order a.events.thread
    → a.events.event + a.events.count ≤ placed h.order a.events.thread
begun_box_is_whole r boxes lanes f h m a at less =
    let box = h.boxes.each m a.events (slice_get_of_map (λ (x : PlacedBox). x.events) boxes m a at) in
    let lane = element_below_length lanes a.events.thread (omega (arith, box.thread, h.threads)) in
    let cut = (h.at a.events.thread lane.0 lane.1).cut in
    elim (cases_lt m lane.0.next) [
      | inl old ↦ elim (cut.before m a.events (slice_get_of_map (λ (x : PlacedBox). x.events) boxes m a at) old) [
        | inl bad ↦ absurd (omega (arith, bad))
        | inr ends ↦ ends.1
      ]
      | inr not ↦ elim (cut.after m a.events (slice_get_of_map (λ (x : PlacedBox). x.events) boxes m a at) (omega (arith, not))) [
        | inl bad ↦ absurd (omega (arith, bad))
        | inr from ↦ absurd (omega (arith, from.1, less))
      ]
    ]

-- the lane that follows, where the box that it is at is placed
abbrev pub lane_after : Lane → PlacedBox → Lane
lane_after lane new = record { next = lane.next + 1; free = right_of new.end }

pub being_placed_next_box : (r : Recorded) (boxes : List PlacedBox) (lanes : List Lane) (f : ℕ → ℕ → Version) (lane : Lane) (b : PlacedBox) (e : Event) (needed : Point)
    → AreCoherent r → AreBeingPlaced r boxes lanes f → slice_get lanes b.events.thread ≡ Some lane → slice_get boxes lane.next ≡ Some b
    → event_at r b.events.thread b.events.event ≡ Some e → after_needs f e ≡ Some needed
    → AreBeingPlaced r (slice_set boxes lane.next (box_at b.events e lane.free needed))
    (slice_set lanes b.events.thread (lane_after lane (box_at b.events e lane.free needed)))
    (noted_all (events_in r b.events) (right_of (box_at b.events e lane.free needed).end) f)
being_placed_next_box r boxes lanes f lane b e needed coherent h at there first after = record {
  order = stepped.order;
  is = stepped.is;
  boxes = are_new;
  threads = length_of_slice_set lanes t (lane_after lane new) ∙ h.threads;
  at = at_new;
  done = done_new;
  knows = stepped.knows;
  top = h.top;
  room = room_new;
}
  where
    t : ℕ
    t = b.events.thread

    k : ℕ
    k = lane.next

    new : PlacedBox
    new = box_at b.events e lane.free needed

    within : k < length boxes
    within = slice_get_within boxes k b there

    c : ℕ → ℕ
    c = placed h.order

    at_lane : IsLaneAt boxes t (c t) lane
    at_lane = h.at t lane at

    events_at : slice_get (events_of_all boxes) k ≡ Some b.events
    events_at = slice_get_of_map (λ (x : PlacedBox). x.events) boxes k b there

    here : b.events.event ≡ c t
    here = cut_box_begins_at_event r (events_of_all boxes) t (c t) k b.events h.boxes at_lane.cut events_at refl

    is_box : IsBox r b.events
    is_box = h.boxes.each k b.events events_at

    same_events : events_of_all (slice_set boxes k new) ≡ events_of_all boxes
    same_events = map_set_same_image (λ (x : PlacedBox). x.events) boxes k b new there refl

    are_new : AreBoxes r (events_of_all (slice_set boxes k new))
    are_new = subst (AreBoxes r) (sym same_events) h.boxes

    first_next : event_at r t (c t) ≡ Some e
    first_next = subst (λ n. event_at r t n ≡ Some e) here first

    follow : CanFollowBox r c t
    follow = known_place_can_follow r boxes c f coherent h.knows t e needed first_next after

    knows_new : Knows r (slice_set boxes k new) c f
    knows_new = knows_after_unplaced r boxes c f k b new there refl (omega (arith, here)) h.knows

    stepped : OrderReaches r (slice_set boxes k new) c t (b.events.event + b.events.count) (noted_all (events_in r b.events) (right_of new.end) f)
    stepped = order_reaches_box_end r (slice_set boxes k new) k new coherent are_new (slice_get_after_set boxes k new within) (events_in r b.events) h.order f h.is
        (λ m x is. subst (λ n. event_at r t n ≡ Some x) (omega (arith, here)) (event_at_of_box_event r b.events m x is)) (omega (arith, here))
        (omega (arith, here, length-events_in r b.events is_box)) (λ some. follow) knows_new

    d : ℕ → ℕ
    d = placed stepped.order

    -- another box is the one at k, if it has one of its events
    alone : (m i : ℕ) (a : PlacedBox) → slice_get boxes m ≡ Some a → IsInBox a.events t i → b.events.event ≤ i → i < b.events.event + b.events.count → k ≡ m
    alone m i a at_m has from below = h.boxes.one k m t i b.events a.events events_at
        (slice_get_of_map (λ (x : PlacedBox). x.events) boxes m a at_m) (record { thread = refl; from = from; below = below }) has

    -- a box that was placed before stays where it is
    kept : (m : ℕ) (a : PlacedBox) → slice_get boxes m ≡ Some a → a.events.event < c a.events.thread → IsPlacedByEvents r (slice_set boxes k new) a
    kept m a at_m less = stays_placed_after_set r boxes k b new a there refl (λ i has before. elim before [
      | inl own ↦ omega (arith, own.1, less, has.from, here, ap c own.0)
      | inr n ↦ omega (
        arith,
        needed_event_is_placed r h.order h.is a.events.thread n.0 t i (omega (arith, n.1.below, begun_box_is_whole r boxes lanes f h m a at_m less)) n.2,
        has.from,
        here,
      )
    ]) (placed_is_by_events r boxes a h.boxes (h.done m a at_m less))

    free_new : IsAfterBox (slice_set boxes k new) (IsOf t b.events.event) lane.free
    free_new = after_other_box_set boxes k b new (IsOf t b.events.event) lane.free there refl (λ i has own. omega (arith, own.1, has.from))
        (subst (λ n. IsAfterBox boxes (IsOf t n) lane.free) (sym here) at_lane.free)

    needed_new : IsAfterBox (slice_set boxes k new) (Needs r t b.events.event) needed
    needed_new = after_other_box_set boxes k b new (Needs r t b.events.event) needed there refl
        (λ i has needs. omega (arith, follow.needs t i (subst (λ n. Needs r t n t i) here needs), has.from, here))
        (subst (λ n. IsAfterBox boxes (Needs r t n) needed) (sym here) (needs_place_after_needed r boxes c f coherent h.knows t e needed first_next after))

    new_placed : IsPlacedByEvents r (slice_set boxes k new) new
    new_placed = new_box_by_events r (slice_set boxes k new) b.events e lane.free needed are_new is_box first free_new needed_new
        (λ m i a at_m has less. elim (slice_get_set_split boxes k m new a within at_m) [
          | inl same ↦ absurd (omega (arith, less, has.from, ap (λ (x : PlacedBox). x.events.event) same.1))
          | inr old ↦ kept m a old.1 (omega (arith, less, has.from, here, ap c has.thread))
        ])

    -- a box whose first event is placed now was placed before, or is the new one
    was : (m : ℕ) (a : PlacedBox) → (k ≡ m → ⊥) → slice_get boxes m ≡ Some a → a.events.event < d a.events.thread → a.events.event < c a.events.thread
    was m a ne at_m less = elim (cases_eq a.events.thread t) [
      | inl same ↦ elim (cases_lt a.events.event (c t)) [
        | inl old ↦ omega (arith, old, ap c same)
        | inr not ↦ absurd (ne (alone m a.events.event a at_m (record {
          thread = same;
          from = omega arith;
          below = omega (arith, (h.boxes.each m a.events (slice_get_of_map (λ (x : PlacedBox). x.events) boxes m a at_m)).some);
        }) (omega (arith, not, here)) (omega (arith, less, stepped.here, ap d same))))
      ]
      | inr other ↦ omega (arith, less, stepped.others a.events.thread other)
    ]

    done_new : (m : ℕ) (a : PlacedBox) → slice_get (slice_set boxes k new) m ≡ Some a → a.events.event < d a.events.thread
        → IsPlacedBox r (slice_set boxes k new) a
    done_new m a at_m less = elim (slice_get_set_split boxes k m new a within at_m) [
      | inl same ↦ subst (IsPlacedBox r (slice_set boxes k new)) same.1 (placed_by_events_placed r (slice_set boxes k new) new are_new new_placed)
      | inr old ↦ placed_by_events_placed r (slice_set boxes k new) a are_new (kept m a old.1 (was m a old.0 old.1 less))
    ]

    -- an event of another box of the thread, up to the new box's end, is before the new box
    earlier : (m : ℕ) (a : PlacedBox) (i : ℕ) → (k ≡ m → ⊥) → slice_get boxes m ≡ Some a → IsInBox a.events a.events.thread i
        → a.events.thread ≡ t → i < b.events.event + b.events.count → i < b.events.event
    earlier m a i ne at_m has same below = elim (cases_lt i b.events.event) [
      | inl less ↦ less
      | inr not ↦ absurd (ne (alone m i a at_m (record { thread = same; from = has.from; below = has.below }) (omega (arith, not)) below))
    ]

    -- the boxes of the thread end by the end of the new one
    ends_x : (z : ℕ) → EndsWhere (slice_set boxes k new) (λ q. q.x) (IsOf t (b.events.event + b.events.count)) z → z < new.end.x + 1
    ends_x z w = elim (slice_get_set_split boxes k w.at new w.box within w.there) [
      | inl same ↦ omega (arith, w.ends, ap (λ (x : PlacedBox). x.end.x) same.1)
      | inr old ↦ omega (
        arith,
        free_new.x.above z (record {
          at = w.at;
          box = w.box;
          event = w.event;
          there = w.there;
          has = w.has;
          these = (w.these.0, earlier w.at w.box w.event old.0 old.1 w.has w.these.0 w.these.1);
          ends = w.ends;
        }),
      )
    ]

    ends_u : (z : ℕ) → EndsWhere (slice_set boxes k new) (λ q. q.u) (IsOf t (b.events.event + b.events.count)) z → z < new.end.u + 1
    ends_u z w = elim (slice_get_set_split boxes k w.at new w.box within w.there) [
      | inl same ↦ omega (arith, w.ends, ap (λ (x : PlacedBox). x.end.u) same.1)
      | inr old ↦ omega (
        arith,
        free_new.u.above z (record {
          at = w.at;
          box = w.box;
          event = w.event;
          there = w.there;
          has = w.has;
          these = (w.these.0, earlier w.at w.box w.event old.0 old.1 w.has w.these.0 w.these.1);
          ends = w.ends;
        }),
      )
    ]

    free_after : IsAfterBox (slice_set boxes k new) (IsOf t (b.events.event + b.events.count)) (right_of new.end)
    free_after = record {
      x = record {
        start = omega arith;
        above = λ z w. ends_x z w;
        least = λ y low all. omega (
          arith,
          all new.end.x (record {
            at = k;
            box = new;
            event = b.events.event;
            there = slice_get_after_set boxes k new within;
            has = record { thread = refl; from = omega arith; below = omega (arith, is_box.some) };
            these = (refl, omega (arith, is_box.some));
            ends = refl;
          }),
        );
      };
      u = record {
        start = omega arith;
        above = λ z w. ends_u z w;
        least = λ y low all. omega (
          arith,
          all new.end.u (record {
            at = k;
            box = new;
            event = b.events.event;
            there = slice_get_after_set boxes k new within;
            has = record { thread = refl; from = omega arith; below = omega (arith, is_box.some) };
            these = (refl, omega (arith, is_box.some));
            ends = refl;
          }),
        );
      };
    }

    at_new : (u : ℕ) (l : Lane) → slice_get (slice_set lanes t (lane_after lane new)) u ≡ Some l → IsLaneAt (slice_set boxes k new) u (d u) l
    at_new u l at_u = elim (slice_get_set_split lanes t u (lane_after lane new) l (slice_get_within lanes t lane at) at_u) [
      | inl same ↦ subst (λ (x : Lane). IsLaneAt (slice_set boxes k new) u (d u) x) same.1
          (subst (λ z. IsLaneAt (slice_set boxes k new) z (d z) (lane_after lane new)) same.0
          (subst (λ n. IsLaneAt (slice_set boxes k new) t n (lane_after lane new)) (sym stepped.here) (record {
            cut = subst (λ (x : List EventBox). IsPlacingCut x t (b.events.event + b.events.count) (k + 1)) (sym same_events)
                (subst (λ n. IsPlacingCut (events_of_all boxes) t (n + b.events.count) (k + 1)) (sym here)
                (cut_after_next_box r (events_of_all boxes) t (c t) k b.events h.boxes at_lane.cut events_at refl here));
            free = free_after;
          })))
      | inr old ↦
          let before = h.at u l old.1 in
          subst (λ n. IsLaneAt (slice_set boxes k new) u n l) (sym (stepped.others u (λ same. old.0 (sym same)))) (record {
            cut = subst (λ (x : List EventBox). IsPlacingCut x u (c u) l.next) (sym same_events) before.cut;
            free = after_other_box_set boxes k b new (IsOf u (c u)) l.free there refl (λ i has own. old.0 own.0) before.free;
          })
    ]

    near : (o v : ℕ) → NearVersion h.top (left_of boxes lanes) (f o v)
    near o v = record { left = h.room.left o v; made = h.room.made o v }

    fewer : suc (left_of (slice_set boxes k new) (slice_set lanes t (lane_after lane new))) ≡ left_of boxes lanes
    fewer = left_of_next_box boxes lanes k t new lane (lane_after lane new) at within refl

    rest : ℕ
    rest = left_of (slice_set boxes k new) (slice_set lanes t (lane_after lane new))

    near_free : IsNearBox h.top rest (right_of new.end)
    near_free = near_box_end h.top rest b.events e lane.free needed (subst (λ n. IsNearBox h.top n lane.free) (sym fewer) (h.room.lanes t lane at))
        (subst (λ n. IsNearBox h.top n needed) (sym fewer) (needed_place_is_near h.top (left_of boxes lanes) f e needed h.room.first near after))

    near_new : (o v : ℕ) → NearVersion h.top rest (noted_all (events_in r b.events) (right_of new.end) f o v)
    near_new o v = near_after_noted_all h.top rest (events_in r b.events) (right_of new.end) f near_free (λ q w. record {
      left = near_with_fewer_boxes h.top rest (left_of boxes lanes) (f q w).left (omega (arith, fewer)) (near q w).left;
      made = λ p is. near_with_fewer_boxes h.top rest (left_of boxes lanes) p (omega (arith, fewer)) ((near q w).made p is);
    }) o v

    room_new : HasRoomForBox h.top rest (slice_set lanes t (lane_after lane new)) (noted_all (events_in r b.events) (right_of new.end) f)
    room_new = record {
      small = h.room.small;
      first = omega (arith, h.room.first, fewer);
      lanes = λ u l at_u. elim (slice_get_set_split lanes t u (lane_after lane new) l (slice_get_within lanes t lane at) at_u) [
        | inl same ↦ subst (λ (x : Lane). IsNearBox h.top rest x.free) same.1 near_free
        | inr old ↦ near_with_fewer_boxes h.top rest (left_of boxes lanes) l.free (omega (arith, fewer)) (h.room.lanes u l old.1)
      ];
      left = λ o v. (near_new o v).left;
      made = λ o v. (near_new o v).made;
    }
