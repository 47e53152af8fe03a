-- Before a box is placed, and where none can be.
use Rattle.std.proofs.Common.{◌≡◌, ℕ, suc, zero, ◌*◌, ◌<◌, ◌≤◌, ◌⊎◌, inl, inr, Some, None, List, [], ◌∷◌, map, length, refl, sym, ap, ◌∙◌, subst, arith}
use Rattle.std.specs.Prelude.{slice_get}
use Rattle.std.proofs.lemmas.Bool.{cases_eq, cases_lt}
use Rattle.std.proofs.lemmas.List.{get_or_past}
use Rattle.std.proofs.lemmas.Nat.{mul-le}
use Rattle.std.proofs.lemmas.Option.{same_Some, none-some, slice_get_within}
use Rattle.ir_lemmas.proofs.CallerLemmas.{element_below_length}
use Rattle.ir_log.specs.declared.event.Event.{Event}
use Rattle.ir_thread.specs.State.{most_events}
use Rattle.ir_trace.specs.Recorded.{Recorded, RecordedThread, recorded_thread}
use Rattle.ir_trace.specs.Absent.{absent}
use Rattle.ir_past.specs.Past.{event_at}
use Rattle.ir_past.specs.Answers.{AreCoherent}
use Rattle.ir_picture.specs.Needs.{placed, CanFollowBox, HasNoCircle, IsCircleAt}
use Rattle.ir_picture.specs.Boxes.{IsBox, AreBoxes}
use Rattle.ir_picture.specs.Places.{EndsIn, IsThreadEnd, AreBoxesPlaced}
use Rattle.ir_picture.specs.Placing.{EndsWhere, IsAfterBox, IsOf, IsPlacingCut, IsNearBox, AreBeingPlaced, IsNextPlace, first_point, after_needs, unknown_version, left_of, events_of_all}
use Rattle.ir_picture.specs.declared.event_box.EventBox.{EventBox}
use Rattle.ir_picture.specs.declared.placed_box.Point.{Point}
use Rattle.ir_picture.specs.declared.placed_box.PlacedBox.{PlacedBox}
use Rattle.ir_picture.specs.declared.table.Version.{Version}
use Rattle.ir_picture.specs.declared.placing.Lane.{Lane}
use Rattle.ir_picture.proofs.Lists.{slice_get_of_map, slice_get_map_inverse}
use Rattle.ir_picture.proofs.Least.{least_above_cong, after_no_events}
use Rattle.ir_picture.proofs.Orders.{placed_le_event_count, stuck_order_is_full}
use Rattle.ir_picture.proofs.Follows.{no_place_no_follow}
use Rattle.ir_picture.proofs.Cuts.{first_event_is_in_box, cut_box_begins_at_event, no_box_no_events_left}
use Rattle.ir_picture.proofs.Known.{knows_at_start}
use Rattle.ir_picture.proofs.Placed.{box_has_first_event}
use Rattle.ir_picture.proofs.Room.{left_of_le_product, near_first_point}

-- ---- the start

pub being_placed_at_start : (r : Recorded) (boxes : List PlacedBox) (lanes : List Lane) (f : ℕ → ℕ → Version) → AreBoxes r (events_of_all boxes)
    → length lanes ≡ length r.threads
    → ((t : ℕ) (l : Lane) → slice_get lanes t ≡ Some l → (l.free ≡ first_point) × IsPlacingCut (events_of_all boxes) t 0 l.next)
    → ((o v : ℕ) → f o v ≡ unknown_version) → length boxes ≤ length r.threads * most_events → length r.threads ≤ 16 → AreBeingPlaced r boxes lanes f
being_placed_at_start r boxes lanes f are same at none few threads = record {
  order = [];
  is = tt;
  boxes = are;
  threads = same;
  at = λ t l is. record {
    cut = (at t l is).1;
    free = subst (IsAfterBox boxes (IsOf t 0)) (sym (at t l is).0) (after_no_events boxes (IsOf t 0) (λ u i own. omega (arith, own.1)));
  };
  done = λ k b is less. absurd (omega (arith, less));
  knows = knows_at_start r boxes f none;
  top = top;
  room = record {
    small = omega (arith, left_small);
    first = omega arith;
    lanes = λ t l is. subst (IsNearBox top (left_of boxes lanes)) (sym (at t l is).0) (near_first_point top (left_of boxes lanes) (omega arith));
    left = λ o v. subst (λ (x : Version). IsNearBox top (left_of boxes lanes) x.left) (sym (none o v)) (near_first_point top (left_of boxes lanes) (omega arith));
    made = λ o v p is. absurd (none-some p (sym (ap (λ (x : Version). x.made) (none o v)) ∙ is));
  };
}
  where
    top : ℕ
    top = 2 * left_of boxes lanes

    few_boxes : (n m : ℕ) → n ≤ 16 → m ≤ n * most_events → m ≤ 16 * most_events
    few_boxes n m a b = omega (arith, b, mul-le n most_events 16 most_events a (omega arith))

    few_left : (n m x : ℕ) → n ≤ 16 → m ≤ 16 * most_events → x ≤ n * m → x ≤ 16 * (16 * most_events)
    few_left n m x a b k = omega (arith, k, mul-le n m 16 (16 * most_events) a b)

    left_small : left_of boxes lanes ≤ 16 * (16 * most_events)
    left_small = few_left (length lanes) (length boxes) (left_of boxes lanes) (omega (arith, same, threads))
        (few_boxes (length r.threads) (length boxes) threads few) (left_of_le_product boxes lanes)

-- ---- the next box of a thread, if there is one

pub box_of_thread_or_not : (boxes : List PlacedBox) (k t : ℕ)
    → ((b : PlacedBox) × (slice_get boxes k ≡ Some b) × (b.events.thread ≡ t)) ⊎ ((b : PlacedBox) → slice_get boxes k ≡ Some b → b.events.thread ≡ t → ⊥)
box_of_thread_or_not [] k t = inr (λ b is thread. none-some b is)
box_of_thread_or_not (x ∷ xs) zero t = elim (cases_eq x.events.thread t) [
  | inl same ↦ inl (x, refl, same)
  | inr ne ↦ inr (λ b is thread. ne (ap (λ (y : PlacedBox). y.events.thread) (same_Some x b is) ∙ thread))
]
box_of_thread_or_not (x ∷ xs) (suc k) t = box_of_thread_or_not xs k t

-- a thread with no next box has all its events placed
pub no_next_box_all_placed : (r : Recorded) (boxes : List PlacedBox) (lanes : List Lane) (f : ℕ → ℕ → Version) (h : AreBeingPlaced r boxes lanes f) (t : ℕ)
    → ((l : Lane) (b : PlacedBox) → slice_get lanes t ≡ Some l → slice_get boxes l.next ≡ Some b → b.events.thread ≡ t → ⊥)
    → placed h.order t ≡ length (recorded_thread r t).events
no_next_box_all_placed r boxes lanes f h t none = elim (cases_lt (placed h.order t) (length (recorded_thread r t).events)) [
  | inl less ↦ absurd (not_all less)
  | inr not ↦ omega (arith, not, placed_le_event_count r h.order h.is t)
]
  where
    thread_there : (i : ℕ) → i < length (recorded_thread r t).events → t < length r.threads
    thread_there i less = elim (cases_lt t (length r.threads)) [
      | inl within ↦ within
      | inr past ↦ absurd (omega (arith, less, ap (λ (x : RecordedThread). length x.events) (get_or_past r.threads t absent past)))
    ]

    not_all : placed h.order t < length (recorded_thread r t).events → ⊥
    not_all less =
        let lane = element_below_length lanes t (omega (arith, thread_there (placed h.order t) less, h.threads)) in
        no_box_no_events_left r (events_of_all boxes) t (placed h.order t) lane.0.next h.boxes (h.at t lane.0 lane.1).cut
        (λ a is thread.
        let back = slice_get_map_inverse (λ (x : PlacedBox). x.events) boxes lane.0.next a is in
        none lane.0 back.0 lane.1 back.1 (ap (λ (x : EventBox). x.thread) back.2 ∙ thread)) less

-- no thread can follow where each next box waits
pub waiting_box_no_follow : (r : Recorded) (boxes : List PlacedBox) (lanes : List Lane) (f : ℕ → ℕ → Version) → AreCoherent r → (h : AreBeingPlaced r boxes lanes f)
    → ((t : ℕ) (lane : Lane) (b : PlacedBox) (e : Event) → IsNextPlace r boxes lanes t lane b e → after_needs f e ≡ None) → (t : ℕ)
    → CanFollowBox r (placed h.order) t → ⊥
waiting_box_no_follow r boxes lanes f coherent h waits t follow = elim (cases_lt t (length lanes)) [
  | inl within ↦
      let lane = element_below_length lanes t within in
      elim (box_of_thread_or_not boxes lane.0.next t) [
        | inl found ↦
            let at = slice_get_of_map (λ (x : PlacedBox). x.events) boxes lane.0.next found.0 found.1 in
            let event = box_has_first_event r found.0.events (h.boxes.each lane.0.next found.0.events at) in
            let here = cut_box_begins_at_event r (events_of_all boxes) t (placed h.order t) lane.0.next found.0.events h.boxes (h.at t lane.0 lane.1).cut at found.2 in
            let there : event_at r t found.0.events.event ≡ Some event.0 = subst (λ z. event_at r z found.0.events.event ≡ Some event.0) found.2 event.1 in
            no_place_no_follow r boxes (placed h.order) f coherent h.knows t event.0 (subst (λ n. event_at r t n ≡ Some event.0) here there)
            (waits t lane.0 found.0 event.0 (record { at = lane.1; there = found.1; thread = found.2; first = there })) follow
        | inr none ↦
            let over = no_next_box_all_placed r boxes lanes f h t (λ l b at there thread. none b
            (subst (λ (x : Lane). slice_get boxes x.next ≡ Some b) (same_Some l lane.0 (sym at ∙ lane.1)) there) thread) in
            omega (arith, over, follow.there)
      ]
  | inr past ↦
      let over = no_next_box_all_placed r boxes lanes f h t (λ l b at there thread. omega (arith, past, slice_get_within lanes t l at)) in
      omega (arith, over, follow.there)
]

-- the lowest thread with a next box, where each next box waits
pub circle_at_lowest : (r : Recorded) (boxes : List PlacedBox) (lanes : List Lane) (f : ℕ → ℕ → Version) → AreCoherent r → (h : AreBeingPlaced r boxes lanes f)
    → ((t : ℕ) (lane : Lane) (b : PlacedBox) (e : Event) → IsNextPlace r boxes lanes t lane b e → after_needs f e ≡ None) → (t : ℕ) (lane : Lane) (b : PlacedBox)
    → slice_get lanes t ≡ Some lane → slice_get boxes lane.next ≡ Some b → b.events.thread ≡ t
    → ((u : ℕ) → u < t → (l : Lane) (a : PlacedBox) → slice_get lanes u ≡ Some l → slice_get boxes l.next ≡ Some a → a.events.thread ≡ u → ⊥)
    → IsCircleAt r t b.events.event
circle_at_lowest r boxes lanes f coherent h waits t lane b at there thread lowest = record {
  order = h.order;
  full = stuck_order_is_full r h.order h.is (waiting_box_no_follow r boxes lanes f coherent h waits);
  next = sym here;
  left = omega (arith, box.some, box.within, ap (λ z. length (recorded_thread r z).events) thread);
  lowest = λ u less. no_next_box_all_placed r boxes lanes f h u (lowest u less);
}
  where
    at_events : slice_get (events_of_all boxes) lane.next ≡ Some b.events
    at_events = slice_get_of_map (λ (x : PlacedBox). x.events) boxes lane.next b there

    here : b.events.event ≡ placed h.order t
    here = cut_box_begins_at_event r (events_of_all boxes) t (placed h.order t) lane.next b.events h.boxes (h.at t lane at).cut at_events thread

    box : IsBox r b.events
    box = h.boxes.each lane.next b.events at_events

-- ---- where no thread has a next box

pub no_next_box_no_circle : (r : Recorded) (boxes : List PlacedBox) (lanes : List Lane) (f : ℕ → ℕ → Version) → AreBeingPlaced r boxes lanes f
    → ((t : ℕ) (l : Lane) (b : PlacedBox) → slice_get lanes t ≡ Some l → slice_get boxes l.next ≡ Some b → b.events.thread ≡ t → ⊥) → HasNoCircle r
no_next_box_no_circle r boxes lanes f h over = (h.order, h.is, λ t. no_next_box_all_placed r boxes lanes f h t (over t))

pub no_next_box_boxes_placed : (r : Recorded) (boxes : List PlacedBox) (lanes : List Lane) (f : ℕ → ℕ → Version) → AreBeingPlaced r boxes lanes f
    → ((t : ℕ) (l : Lane) (b : PlacedBox) → slice_get lanes t ≡ Some l → slice_get boxes l.next ≡ Some b → b.events.thread ≡ t → ⊥)
    → AreBoxesPlaced r boxes (map (λ (l : Lane). l.free) lanes)
no_next_box_boxes_placed r boxes lanes f h over = record {
  all = h.boxes;
  placed = λ k b is.
      let box = h.boxes.each k b.events (slice_get_of_map (λ (x : PlacedBox). x.events) boxes k b is) in
      h.done k b is (omega (arith, box.some, box.within, no_next_box_all_placed r boxes lanes f h b.events.thread (over b.events.thread)));
  threads = length_same lanes ∙ h.threads;
  last = λ t p is.
      let back = slice_get_map_inverse (λ (l : Lane). l.free) lanes t p is in
      subst (IsThreadEnd boxes t) back.2 (thread_end t back.0 back.1);
}
  where
    length_same : (ls : List Lane) → length (map (λ (l : Lane). l.free) ls) ≡ length ls
    length_same [] = refl
    length_same (l ∷ ls) = ap suc (length_same ls)

    to_thread : (number : Point → ℕ) (t z : ℕ) → EndsWhere boxes number (IsOf t (placed h.order t)) z → EndsIn boxes number t z
    to_thread number t z w = record { at = w.at; box = w.box; there = w.there; thread = w.these.0; ends = w.ends }

    of_thread : (number : Point → ℕ) (t z : ℕ) → EndsIn boxes number t z → EndsWhere boxes number (IsOf t (placed h.order t)) z
    of_thread number t z w =
        let box = h.boxes.each w.at w.box.events (slice_get_of_map (λ (x : PlacedBox). x.events) boxes w.at w.box w.there) in
        record {
          at = w.at;
          box = w.box;
          event = w.box.events.event;
          there = w.there;
          has = first_event_is_in_box r w.box.events box;
          these = (w.thread, omega (arith, box.some, box.within, no_next_box_all_placed r boxes lanes f h t (over t), ap (λ x. length (recorded_thread r x).events) w.thread));
          ends = w.ends;
        }

    thread_end : (t : ℕ) (l : Lane) → slice_get lanes t ≡ Some l → IsThreadEnd boxes t l.free
    thread_end t l is =
        let free = (h.at t l is).free in
        record {
          x = least_above_cong 0 (EndsWhere boxes (λ q. q.x) (IsOf t (placed h.order t))) (EndsIn boxes (λ q. q.x) t) l.free.x
              (to_thread (λ q. q.x) t) (of_thread (λ q. q.x) t) free.x;
          u = least_above_cong 1 (EndsWhere boxes (λ q. q.u) (IsOf t (placed h.order t))) (EndsIn boxes (λ q. q.u) t) l.free.u
              (to_thread (λ q. q.u) t) (of_thread (λ q. q.u) t) free.u;
        }

pub length-events_of_all : (boxes : List PlacedBox) → length (events_of_all boxes) ≡ length boxes
length-events_of_all [] = refl
length-events_of_all (b ∷ bs) = ap suc (length-events_of_all bs)
