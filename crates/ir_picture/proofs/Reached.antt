-- One step of placing, by the parts of the state.
use Rattle.std.proofs.Common.{◌≡◌, ℕ, ◌+◌, ◌*◌, ◌^◌, ◌<◌, ◌≤◌, Option, Some, None, Result, Ok, Err, OnOk, List, length, get_or, vec_len, slice_set, refl, sym, ap, ◌∙◌, subst, arith}
use Rattle.std.specs.Prelude.{slice_get, IfSome, IfNone}
use Rattle.std.proofs.lemmas.Option.{same_Some, slice_get_within, slice_get_read}
use Rattle.std.proofs.lemmas.Nat.{mul-le}
use Rattle.ir_log.specs.declared.event.Event.{Event}
use Rattle.ir_thread.specs.State.{most_events}
use Rattle.ir_trace.specs.Recorded.{Recorded, recorded_thread}
use Rattle.ir_trace.proofs.CallerLemmas.{recorded_threads_within}
use Rattle.ir_coherence.proofs.CallerLemmas.{recorded_thread_fits}
use Rattle.ir_past.specs.Past.{event_at}
use Rattle.ir_past.specs.Progress.{FitsSoFar}
use Rattle.ir_past.specs.Answers.{AreCoherent}
use Rattle.ir_picture.specs.Needs.{placed}
use Rattle.ir_picture.specs.Boxes.{IsBox}
use Rattle.ir_picture.specs.Numbers.{events_in}
use Rattle.ir_picture.specs.Placing.{AreBeingPlaced, IsPlacing, IsPlaceable, IsNextPlace, IsWaitingBox, IsOverBox, version_in, after_needs}
use Rattle.ir_picture.specs.Placing.{noted_all, right_of, box_at, boxes_left, left_of, placed_reads}
use Rattle.ir_picture.specs.declared.event_box.EventBox.{EventBox}
use Rattle.ir_picture.specs.declared.placed_box.Point.{Point}
use Rattle.ir_picture.specs.declared.placed_box.PlacedBox.{PlacedBox}
use Rattle.ir_picture.specs.declared.table.Version.{Version}
use Rattle.ir_picture.specs.declared.placing.Lane.{Lane}
use Rattle.ir_picture.specs.declared.placing.Placing.{Placing}
use Rattle.ir_picture.proofs.Lists.{slice_get_of_map}
use Rattle.ir_picture.proofs.Counts.{placed_reads_bound}
use Rattle.ir_picture.proofs.Room.{left_of_next_box, needed_place_is_near, event_length_le_one}
use Rattle.ir_picture.proofs.Next.{being_placed_next_box, lane_after, event_at_of_box_event, length-events_in}
use Rattle.ir_past.proofs.CallerLemmas.{events_fit_objects}

pub placing_box_is_box : (r : Recorded) (p : Placing) → IsPlacing r p → (k : ℕ) (b : PlacedBox) → slice_get p.boxes.items k ≡ Some b → IsBox r b.events
placing_box_is_box r p h k b at = h.are.boxes.each k b.events (slice_get_of_map (λ (x : PlacedBox). x.events) p.boxes.items k b at)

-- the parts of what is ready, by what the code reads
pub record ReadyParts (r : Recorded) (p : Placing) (t : ℕ) (needed : Point) (lane : Lane) (b : PlacedBox) : Type 0 where
  pub at : slice_get p.lanes.items t ≡ Some lane
  pub there : slice_get p.boxes.items lane.next ≡ Some b
  pub thread : b.events.thread ≡ t
  pub event : Event
  pub first : event_at r b.events.thread b.events.event ≡ Some event
  pub after : after_needs (version_in p.table) event ≡ Some needed

pub ready_parts_of_lane : (r : Recorded) (p : Placing) (t : ℕ) (needed : Point) (h : IsPlaceable r p t needed) (lane : Lane) → slice_get p.lanes.items t ≡ Some lane
    → ReadyParts r p t needed lane h.box
ready_parts_of_lane r p t needed h lane at = record {
  at = at;
  there = subst (λ (l : Lane). slice_get p.boxes.items l.next ≡ Some h.box) (same_Some h.lane lane (sym h.next.at ∙ at)) h.next.there;
  thread = h.next.thread;
  event = h.event;
  first = subst (λ z. event_at r z h.box.events.event ≡ Some h.event) (sym h.next.thread) h.next.first;
  after = h.after;
}

pub ready_parts_hold : (r : Recorded) (p : Placing) (t : ℕ) (needed : Point) → IsPlaceable r p t needed → (lane : Lane) (b : PlacedBox)
    → slice_get p.lanes.items t ≡ Some lane → slice_get p.boxes.items lane.next ≡ Some b → ReadyParts r p t needed lane b
ready_parts_hold r p t needed h lane b at there =
    let x = ready_parts_of_lane r p t needed h lane at in
    subst (ReadyParts r p t needed lane) (same_Some h.box b (sym x.there ∙ there)) x

-- the state after a box is placed
pub placing_after_next_box : (r : Recorded) (p new : Placing) (t : ℕ) (needed : Point) (lane : Lane) (b : PlacedBox) (e : Event) → AreCoherent r → IsPlacing r p
    → ReadyParts r p t needed lane b → event_at r b.events.thread b.events.event ≡ Some e
    → new.boxes.items ≡ slice_set p.boxes.items lane.next (box_at b.events e lane.free needed)
    → new.lanes.items ≡ slice_set p.lanes.items t (lane_after lane (box_at b.events e lane.free needed))
    → vec_len new.table.objects ≡ vec_len p.table.objects
    → ((o v : ℕ) → version_in new.table o v
    ≡ noted_all (events_in r b.events) (right_of (box_at b.events e lane.free needed).end) (version_in p.table) o v) → IsPlacing r new
placing_after_next_box r p new t needed lane b e coherent h reads first boxes lanes objects noted = record {
  recorded = h.recorded;
  objects = objects ∙ h.objects;
  are = subst (λ (f : ℕ → ℕ → Version). AreBeingPlaced r new.boxes.items new.lanes.items f) (λ i o v. sym (noted o v) i)
      (subst (λ (ls : List Lane). AreBeingPlaced r new.boxes.items ls after) (sym lanes)
      (subst (λ (bs : List PlacedBox). AreBeingPlaced r bs (slice_set p.lanes.items t (lane_after lane box)) after) (sym boxes)
      (subst (λ z. AreBeingPlaced r (slice_set p.boxes.items lane.next box) (slice_set p.lanes.items z (lane_after lane box)) after) reads.thread
      (being_placed_next_box r p.boxes.items p.lanes.items (version_in p.table) lane b e needed coherent h.are
      (subst (λ z. slice_get p.lanes.items z ≡ Some lane) (sym reads.thread) reads.at) reads.there first
      (subst (λ (x : Event). after_needs (version_in p.table) x ≡ Some needed) (same_Some reads.event e (sym reads.first ∙ first)) reads.after)))));
}
  where
    box : PlacedBox
    box = box_at b.events e lane.free needed

    after : ℕ → ℕ → Version
    after = noted_all (events_in r b.events) (right_of box.end) (version_in p.table)

-- ---- bounds

pub free_place_within_limit : (r : Recorded) (p : Placing) (t : ℕ) (lane : Lane) → IsPlacing r p → slice_get p.lanes.items t ≡ Some lane
    → (lane.free.x ≤ 2 ^ 40) × (lane.free.u ≤ 2 ^ 40 + 1)
free_place_within_limit r p t lane h at =
    let near = h.are.room.lanes t lane at in
    (omega (arith, near.x, h.are.room.small), omega (arith, near.u, h.are.room.small))

pub needed_place_within : (r : Recorded) (p : Placing) (t : ℕ) (needed : Point) → IsPlacing r p → IsPlaceable r p t needed
    → (needed.x ≤ 2 ^ 40) × (needed.u ≤ 2 ^ 40 + 1)
needed_place_within r p t needed h ready =
    let near = needed_place_is_near h.are.top (boxes_left p) (version_in p.table) ready.event needed h.are.room.first
    (λ o v. record { left = h.are.room.left o v; made = h.are.room.made o v }) ready.after in
    (omega (arith, near.x, h.are.room.small), omega (arith, near.u, h.are.room.small))

count_within_16_threads : (n m : ℕ) → n ≤ 16 → m ≤ n * most_events → m ≤ 16 * most_events
count_within_16_threads n m a b = omega (arith, b, mul-le n most_events 16 most_events a (omega arith))

-- the counts of read entries fit
pub readers_and_box_bound : (r : Recorded) (p : Placing) (b : EventBox) → IsPlacing r p → IsBox r b → (o v : ℕ)
    → (version_in p.table o v).readers + length (events_in r b) < 2 ^ 32
readers_and_box_bound r p b h is o v = omega (
  arith,
  h.are.knows.readers o v,
  count_within_16_threads (length r.threads) (placed_reads r (placed h.are.order) o v) (recorded_threads_within r h.recorded)
      (placed_reads_bound r (placed h.are.order) o v h.recorded),
  length-events_in r b is,
  is.within,
  (recorded_thread_fits r h.recorded b.thread is.thread).few_events,
)

-- the events of a box are of objects that there are
pub box_events_fit_objects : (r : Recorded) (p : Placing) (b : EventBox) → IsPlacing r p → IsBox r b → FitsSoFar (events_in r b) (vec_len p.table.objects)
box_events_fit_objects r p b h is k o e at enters = omega (
  arith,
  h.objects,
  events_fit_objects r.profile r.objects (recorded_thread r b.thread).events (recorded_thread_fits r h.recorded b.thread is.thread).events_fit (b.event + k) o e
      (event_at_of_box_event r b k e at) enters,
)

-- ---- what is asked of the next box of a thread

pub lane_of_thread : (r : Recorded) (p : Placing) (t : ℕ) (lane : Lane) → IsPlacing r p → t < length r.threads → lane ≡ get_or p.lanes.items t lane
    → slice_get p.lanes.items t ≡ Some lane
lane_of_thread r p t lane h less is = slice_get_read p.lanes.items (length p.lanes.items) t lane refl (omega (arith, less, h.are.threads)) is

pub next_box_if_found : (r : Recorded) (p : Placing) (t : ℕ) (lane : Lane) (boxes : List PlacedBox) (own : EventBox) (e : Event) → boxes ≡ p.boxes.items
    → slice_get p.lanes.items t ≡ Some lane
    → ((b : PlacedBox) × (slice_get boxes lane.next ≡ Some b) × (b.events ≡ own) × (b.events.thread ≡ t))
    → event_at r own.thread own.event ≡ Some e → (b : PlacedBox) × IsNextPlace r p.boxes.items p.lanes.items t lane b e
next_box_if_found r p t lane boxes own e same at f first = (
  f.0,
  record {
    at = at;
    there = subst (λ (bs : List PlacedBox). slice_get bs lane.next ≡ Some f.0) same f.1;
    thread = f.3;
    first = subst (λ z. event_at r z f.0.events.event ≡ Some e) f.3 (subst (λ (x : EventBox). event_at r x.thread x.event ≡ Some e) (sym f.2) first);
  },
)

pub found_box_is_box : (r : Recorded) (p : Placing) (t k : ℕ) (boxes : List PlacedBox) (own : EventBox) → IsPlacing r p → boxes ≡ p.boxes.items
    → ((b : PlacedBox) × (slice_get boxes k ≡ Some b) × (b.events ≡ own) × (b.events.thread ≡ t)) → IsBox r own
found_box_is_box r p t k boxes own h same f = subst (IsBox r) f.2
    (placing_box_is_box r p h k f.0 (subst (λ (bs : List PlacedBox). slice_get bs k ≡ Some f.0) same f.1))

pub ready_after_needs : (r : Recorded) (p : Placing) (t : ℕ) (lane : Lane) (e : Event) (result : Option Point)
    → ((b : PlacedBox) × IsNextPlace r p.boxes.items p.lanes.items t lane b e) → result ≡ after_needs (version_in p.table) e
    → IfSome result (λ x. IsPlaceable r p t x)
ready_after_needs r p t lane e None next is = tt
ready_after_needs r p t lane e (Some x) next is = record { lane = lane; box = next.0; event = e; next = next.1; after = sym is }

pub waiting_after_no_needs : (r : Recorded) (p : Placing) (t : ℕ) (lane : Lane) (e : Event) (result : Option Point)
    → ((b : PlacedBox) × IsNextPlace r p.boxes.items p.lanes.items t lane b e) → result ≡ after_needs (version_in p.table) e
    → IfNone result (IsWaitingBox r p t)
waiting_after_no_needs r p t lane e (Some x) next is = tt
waiting_after_no_needs r p t lane e None next is = λ l b x other.
    let same_lane : lane ≡ l = same_Some lane l (sym next.1.at ∙ other.at) in
    let same_box : next.0 ≡ b = same_Some next.0 b (sym next.1.there
    ∙ subst (λ (y : Lane). slice_get p.boxes.items y.next ≡ Some b) (sym same_lane) other.there) in
    let same : e ≡ x = same_Some e x (sym next.1.first ∙ subst (λ (y : PlacedBox). event_at r t y.events.event ≡ Some x) (sym same_box) other.first) in
    subst (λ (y : Event). after_needs (version_in p.table) y ≡ None) same (sym is)

pub no_next_box_waits : (r : Recorded) (p : Placing) (t : ℕ) (lane : Lane) (boxes : List PlacedBox) → boxes ≡ p.boxes.items → slice_get p.lanes.items t ≡ Some lane
    → ((b : PlacedBox) → slice_get boxes lane.next ≡ Some b → b.events.thread ≡ t → ⊥) → IsWaitingBox r p t
no_next_box_waits r p t lane boxes same at none l b e next =
    let same_lane : lane ≡ l = same_Some lane l (sym at ∙ next.at) in
    absurd (none b (subst (λ (bs : List PlacedBox). slice_get bs lane.next ≡ Some b) (sym same)
    (subst (λ (y : Lane). slice_get p.boxes.items y.next ≡ Some b) (sym same_lane) next.there)) next.thread)

-- a thread that isn't there waits
pub beyond_last_waits : (r : Recorded) (p : Placing) (t : ℕ) → IsPlacing r p → length r.threads ≤ t → IsWaitingBox r p t
beyond_last_waits r p t h past l b e next = absurd (omega (arith, past, h.are.threads, slice_get_within p.lanes.items t l next.at))

pub beyond_last_is_over : (r : Recorded) (p : Placing) (t : ℕ) → IsPlacing r p → length r.threads ≤ t → IsOverBox p t
beyond_last_is_over r p t h past l b at there thread = omega (arith, past, h.are.threads, slice_get_within p.lanes.items t l at)

pub no_next_box_is_over : (p : Placing) (t : ℕ) (lane : Lane) (boxes : List PlacedBox) → boxes ≡ p.boxes.items → slice_get p.lanes.items t ≡ Some lane
    → ((b : PlacedBox) → slice_get boxes lane.next ≡ Some b → b.events.thread ≡ t → ⊥) → IsOverBox p t
no_next_box_is_over p t lane boxes same at none l b at_l there thread =
    let same_lane : lane ≡ l = same_Some lane l (sym at ∙ at_l) in
    none b (subst (λ (bs : List PlacedBox). slice_get bs lane.next ≡ Some b) (sym same)
    (subst (λ (y : Lane). slice_get p.boxes.items y.next ≡ Some b) (sym same_lane) there)) thread

-- ---- what the code reads where a thread is ready

pub lane_of_ready_thread : (r : Recorded) (p : Placing) (t : ℕ) (needed : Point) (lane : Lane) → IsPlaceable r p t needed → lane ≡ get_or p.lanes.items t lane
    → slice_get p.lanes.items t ≡ Some lane
lane_of_ready_thread r p t needed lane h is = slice_get_read p.lanes.items (length p.lanes.items) t lane refl (slice_get_within p.lanes.items t h.lane h.next.at) is

pub ready_parts_by_get_or : (r : Recorded) (p : Placing) (t : ℕ) (needed : Point) (lane : Lane) (b : PlacedBox) → IsPlacing r p → IsPlaceable r p t needed
    → lane ≡ get_or p.lanes.items t lane → b ≡ get_or p.boxes.items lane.next b → ReadyParts r p t needed lane b
ready_parts_by_get_or r p t needed lane b h ready is_lane is_box =
    let at = lane_of_ready_thread r p t needed lane ready is_lane in
    let x = ready_parts_of_lane r p t needed ready lane at in
    ready_parts_hold r p t needed ready lane b at
    (slice_get_read p.boxes.items (length p.boxes.items) lane.next b refl (slice_get_within p.boxes.items lane.next ready.box x.there) is_box)

pub on_ok_both_imply : {A E : Type 0} (result : Result A E) (P Q R : Type 0) → OnOk result P → OnOk result Q → (P → Q → R) → OnOk result R
on_ok_both_imply (Ok x) P Q R p q f = f p q
on_ok_both_imply (Err e) P Q R p q f = tt

-- the end of a box isn't far
pub placed_box_end_within : (b : EventBox) (e : Event) (free needed : Point) (box : PlacedBox) → box ≡ box_at b e free needed → free.x ≤ 2 ^ 40 → needed.x ≤ 2 ^ 40
    → free.u ≤ 2 ^ 40 + 1 → needed.u ≤ 2 ^ 40 + 1 → (box.end.x < 2 ^ 62) × (box.end.u < 2 ^ 62)
placed_box_end_within b e free needed box is free_x needed_x free_u needed_u = (
  omega (arith, ap (λ (x : PlacedBox). x.end.x) is, event_length_le_one e, free_x, needed_x),
  omega (arith, ap (λ (x : PlacedBox). x.end.u) is, free_u, needed_u),
)

-- the state after a box is placed, by what the calls return
pub placing_after_placed : (r : Recorded) (p new : Placing) (t : ℕ) (needed : Point) (lane : Lane) (b box : PlacedBox) (e : Event) (free : Point) (es : List Event)
    → AreCoherent r → IsPlacing r p → ReadyParts r p t needed lane b → event_at r b.events.thread b.events.event ≡ Some e
    → box ≡ box_at b.events e lane.free needed → free ≡ right_of box.end → es ≡ events_in r b.events
    → new.boxes.items ≡ slice_set p.boxes.items lane.next box
    → new.lanes.items ≡ slice_set p.lanes.items t (record { next = lane.next + 1; free = free })
    → vec_len new.table.objects ≡ vec_len p.table.objects
    → ((o v : ℕ) → version_in new.table o v ≡ noted_all es free (version_in p.table) o v) → IsPlacing r new
placing_after_placed r p new t needed lane b box e free es coherent h reads first is_box is_free is_es boxes lanes objects noted =
    placing_after_next_box r p new t needed lane b e coherent h reads first (boxes ∙ ap (λ (x : PlacedBox). slice_set p.boxes.items lane.next x) is_box)
    (lanes ∙ ap (λ (q : Point). slice_set p.lanes.items t (record { next = lane.next + 1; free = q })) now_free) objects
    (λ o v. noted o v ∙ (ap (λ (xs : List Event). noted_all xs free (version_in p.table) o v) is_es
    ∙ ap (λ (q : Point). noted_all (events_in r b.events) q (version_in p.table) o v) now_free))
  where
    now_free : free ≡ right_of (box_at b.events e lane.free needed).end
    now_free = is_free ∙ ap (λ (x : PlacedBox). right_of x.end) is_box

pub boxes_left_falls : (r : Recorded) (p : Placing) (t : ℕ) (needed : Point) (lane : Lane) (b box : PlacedBox) (free : Point) → ReadyParts r p t needed lane b
    → left_of (slice_set p.boxes.items lane.next box) (slice_set p.lanes.items t (record { next = lane.next + 1; free = free })) < boxes_left p
boxes_left_falls r p t needed lane b box free reads = omega (
  arith,
  left_of_next_box p.boxes.items p.lanes.items lane.next t box lane (record { next = lane.next + 1; free = free }) reads.at
      (slice_get_within p.boxes.items lane.next b reads.there) refl,
)
