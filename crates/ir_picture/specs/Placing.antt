-- How far the boxes of a trace are placed.
use Rattle.std.specs.Prelude.{◌≡◌, ℕ, suc, ◌+◌, ◌-◌, ◌*◌, ◌^◌, ◌<◌, ◌≤◌, ◌⊎◌, max, ◌==◌, ◌&&◌, if◌then◌else◌, List, [], ◌∷◌, map, take, length, vec_len, Option, Some, None}
use Rattle.std.specs.List.{slice_get, slice_index_or}
use Rattle.std.specs.Option.{option_map, option_map_or}
use Rattle.ir_runs.specs.Verdicts.{reads, sum_below}
use Rattle.ir_log.specs.Logging.{label_of}
use Rattle.ir_log.specs.declared.event.Event.{Event}
use Rattle.ir_log.specs.declared.event.Event.TheVariants.{Answer, Read, Write, Try}
use Rattle.ir_trace.specs.Recorded.{Recorded, recorded_thread}
use Rattle.ir_trace.specs.Bounds.{IsRecorded}
use Rattle.ir_past.specs.Past.{event_at, IsReadAt, IsWriteAt}
use Rattle.ir_picture.specs.Needs.{placed, IsOrder}
use Rattle.ir_picture.specs.Boxes.{IsInBox, AreBoxes}
use Rattle.ir_picture.specs.Boxing.{EndsBy}
use Rattle.ir_picture.specs.Places.{IsLeastAbove, IsPlacedBox, length_of}
use Rattle.ir_picture.specs.declared.event_box.EventBox.{EventBox}
use Rattle.ir_picture.specs.declared.placed_box.Point.{Point}
use Rattle.ir_picture.specs.declared.placed_box.PlacedBox.{PlacedBox}
use Rattle.ir_picture.specs.declared.table.Version.{Version}
use Rattle.ir_picture.specs.declared.table.Versions.{Versions}
use Rattle.ir_picture.specs.declared.table.Table.{Table}
use Rattle.ir_picture.specs.declared.placing.Lane.{Lane}
use Rattle.ir_picture.specs.declared.placing.Placing.{Placing}

-- the first place of all
abbrev pub first_point : Point
first_point = record { x = 0; u = 1 }

-- the first place right of an end
abbrev pub right_of : Point → Point
right_of p = record { x = p.x + 1; u = p.u + 1 }

-- of two places the greater numbers of each kind
abbrev pub later_of : Point → Point → Point
later_of a b = record { x = max a.x b.x; u = max a.u b.u }

-- ---- what is noted of the versions of objects

-- nothing is placed of a version
abbrev pub unknown_version : Version
unknown_version = record { made = None; readers = 0; left = first_point }

-- what is noted of version v of one object
abbrev pub version_at : Versions → ℕ → Version
version_at vs v = slice_index_or vs.all.items v unknown_version

-- what is noted of version v of object o
abbrev pub version_in : Table → ℕ → ℕ → Version
version_in t o v = option_map_or (λ (x : Versions). version_at x v) (slice_get t.objects.items o) unknown_version

-- the first place after what made version v; nothing made the first version
abbrev pub made_by_box : Version → ℕ → Option Point
made_by_box k v = if v == 0 then Some first_point else k.made

-- one more read entry is placed
abbrev pub with_reader : Version → Point → Version
with_reader k p = record { made = k.made; readers = k.readers + 1; left = later_of k.left p }

-- the write entry that made a version is placed
abbrev pub with_maker : Version → Point → Version
with_maker k p = record { made = Some p; readers = k.readers; left = k.left }

-- the first place after all that an event needs, if all that is placed
abbrev pub after_needs : (ℕ → ℕ → Version) → Event → Option Point
after_needs f (Answer kind value) = Some first_point
after_needs f (Read o v) = made_by_box (f o v) v
after_needs f (Write o v l) = if (f o v).readers == l then option_map (λ p. later_of p (f o v).left) (made_by_box (f o v) v) else None
after_needs f (Try o) = Some first_point

-- what is noted once an event is placed, and the first place after it is p
abbrev pub noted : Event → Point → (ℕ → ℕ → Version) → ℕ → ℕ → Version
noted (Answer kind value) p f o v = f o v
noted (Read q w) p f o v = if (o == q) && (v == w) then with_reader (f q w) p else f o v
noted (Write q w l) p f o v = if (o == q) && (v == w + 1) then with_maker (f q (w + 1)) p else f o v
noted (Try q) p f o v = f o v

-- the same of events of one box
abbrev pub noted_all : List Event → Point → (ℕ → ℕ → Version) → ℕ → ℕ → Version
noted_all [] p f = f
noted_all (e ∷ es) p f = noted_all es p (noted e p f)

-- ---- places

-- the number at which a box ends that has an event such as these
pub record EndsWhere (boxes : List PlacedBox) (number : Point → ℕ) (These : ℕ → ℕ → Type 0) (z : ℕ) : Type 0 where
  pub at : ℕ
  pub box : PlacedBox
  pub event : ℕ
  pub there : slice_get boxes at ≡ Some box
  pub has : IsInBox box.events box.events.thread event
  pub these : These box.events.thread event
  pub ends : number box.end ≡ z

-- the first place right of the boxes that have an event such as these
pub record IsAfterBox (boxes : List PlacedBox) (These : ℕ → ℕ → Type 0) (p : Point) : Type 0 where
  pub x : IsLeastAbove 0 (EndsWhere boxes (λ q. q.x) These) p.x
  pub u : IsLeastAbove 1 (EndsWhere boxes (λ q. q.u) These) p.u

-- it is one of the first n events of thread t
abbrev pub IsOf : ℕ → ℕ → ℕ → ℕ → Type 0
IsOf t n u i = (u ≡ t) × (i < n)

-- it is a read entry of object o at version v, and among the first c of its thread
abbrev pub ReadsPlaced : Recorded → (ℕ → ℕ) → ℕ → ℕ → ℕ → ℕ → Type 0
ReadsPlaced r c o v u i = (i < c u) × IsReadAt r u i o v

-- it is a write entry of object o at version v, and among the first c of its thread
abbrev pub WritesPlaced : Recorded → (ℕ → ℕ) → ℕ → ℕ → ℕ → ℕ → Type 0
WritesPlaced r c o v u i = (i < c u) × ((l : ℕ) × IsWriteAt r u i o v l)

-- how many read entries of object o at version v are among the first c of each thread
abbrev pub placed_reads : Recorded → (ℕ → ℕ) → ℕ → ℕ → ℕ
placed_reads r c o v = sum_below (length r.threads) (λ u. reads o v (map label_of (take (c u) (recorded_thread r u).events)))

-- what is noted of the versions where the first c events of each thread are placed
pub record Knows (r : Recorded) (boxes : List PlacedBox) (c : ℕ → ℕ) (f : ℕ → ℕ → Version) : Type 0 where
  pub readers : (o v : ℕ) → (f o v).readers ≡ placed_reads r c o v
  pub left : (o v : ℕ) → IsAfterBox boxes (ReadsPlaced r c o v) (f o v).left
  pub made : (o v : ℕ) (p : Point) → (f o (suc v)).made ≡ Some p → ((u i : ℕ) × WritesPlaced r c o v u i) × IsAfterBox boxes (WritesPlaced r c o v) p
  pub none : (o v : ℕ) → (f o (suc v)).made ≡ None → (u i : ℕ) → WritesPlaced r c o v u i → ⊥

-- the boxes before box k end by event n of thread t, and the others begin there or later
pub record IsPlacingCut (boxes : List EventBox) (t n k : ℕ) : Type 0 where
  pub before : (m : ℕ) (b : EventBox) → slice_get boxes m ≡ Some b → m < k → EndsBy b t n
  pub after : (m : ℕ) (b : EventBox) → slice_get boxes m ≡ Some b → k ≤ m → (t < b.thread) ⊎ ((b.thread ≡ t) × (n ≤ b.event))

-- the events of boxes
abbrev pub events_of_all : List PlacedBox → List EventBox
events_of_all boxes = map (λ (b : PlacedBox). b.events) boxes

-- where a lane is whose thread's first n events are placed
pub record IsLaneAt (boxes : List PlacedBox) (t n : ℕ) (lane : Lane) : Type 0 where
  pub cut : IsPlacingCut (events_of_all boxes) t n lane.next
  pub free : IsAfterBox boxes (IsOf t n) lane.free

-- how many boxes are left, where each lane counts all that come after its own too
abbrev pub left_of : List PlacedBox → List Lane → ℕ
left_of boxes [] = 0
left_of boxes (l ∷ ls) = (length boxes - l.next) + left_of boxes ls

abbrev pub boxes_left : Placing → ℕ
boxes_left p = left_of p.boxes.items p.lanes.items

-- a place that is not too far where this many boxes are left
pub record IsNearBox (top fewer : ℕ) (p : Point) : Type 0 where
  pub x : p.x + 2 * fewer ≤ top
  pub u : p.u + 2 * fewer ≤ top + 1

-- no place is too far
pub record HasRoomForBox (top fewer : ℕ) (all : List Lane) (f : ℕ → ℕ → Version) : Type 0 where
  pub small : top ≤ 2 ^ 40
  pub first : 2 * fewer ≤ top
  pub lanes : (t : ℕ) (l : Lane) → slice_get all t ≡ Some l → IsNearBox top fewer l.free
  pub left : (o v : ℕ) → IsNearBox top fewer (f o v).left
  pub made : (o v : ℕ) (p : Point) → (f o v).made ≡ Some p → IsNearBox top fewer p

-- boxes of a trace that are being placed
pub record AreBeingPlaced (r : Recorded) (all : List PlacedBox) (lanes : List Lane) (f : ℕ → ℕ → Version) : Type 0 where
  pub order : List ℕ
  pub is : IsOrder r order
  pub boxes : AreBoxes r (events_of_all all)
  pub threads : length lanes ≡ length r.threads
  pub at : (t : ℕ) (l : Lane) → slice_get lanes t ≡ Some l → IsLaneAt all t (placed order t) l
  pub done : (k : ℕ) (b : PlacedBox) → slice_get all k ≡ Some b → b.events.event < placed order b.events.thread → IsPlacedBox r all b
  pub knows : Knows r all (placed order) f
  pub top : ℕ
  pub room : HasRoomForBox top (left_of all lanes) lanes f

-- the same with its tables
pub record IsPlacing (r : Recorded) (p : Placing) : Type 0 where
  pub recorded : IsRecorded r
  pub objects : vec_len p.table.objects ≡ r.objects
  pub are : AreBeingPlaced r p.boxes.items p.lanes.items (version_in p.table)

-- box b is the next of thread t, with event e as its first
pub record IsNextPlace (r : Recorded) (boxes : List PlacedBox) (lanes : List Lane) (t : ℕ) (lane : Lane) (b : PlacedBox) (e : Event) : Type 0 where
  pub at : slice_get lanes t ≡ Some lane
  pub there : slice_get boxes lane.next ≡ Some b
  pub thread : b.events.thread ≡ t
  pub first : event_at r t b.events.event ≡ Some e

-- the next box of thread t can be placed after this place
pub record IsPlaceable (r : Recorded) (p : Placing) (t : ℕ) (needed : Point) : Type 0 where
  pub lane : Lane
  pub box : PlacedBox
  pub event : Event
  pub next : IsNextPlace r p.boxes.items p.lanes.items t lane box event
  pub after : after_needs (version_in p.table) event ≡ Some needed

-- thread t has no next box that can be placed
abbrev pub IsWaitingBox : Recorded → Placing → ℕ → Type 0
IsWaitingBox r p t = (lane : Lane) (b : PlacedBox) (e : Event) → IsNextPlace r p.boxes.items p.lanes.items t lane b e
    → after_needs (version_in p.table) e ≡ None

-- no box is left that can be placed
pub record IsStuck (r : Recorded) (p : Placing) : Type 0 where
  pub placing : IsPlacing r p
  pub waits : (t : ℕ) → IsWaitingBox r p t

-- thread t has no next box
abbrev pub IsOverBox : Placing → ℕ → Type 0
IsOverBox p t = (l : Lane) (b : PlacedBox) → slice_get p.lanes.items t ≡ Some l → slice_get p.boxes.items l.next ≡ Some b → b.events.thread ≡ t → ⊥

-- a box with these events, the first of which is e, where its thread is free from one place on, and what it needs is before another
abbrev pub box_at : EventBox → Event → Point → Point → PlacedBox
box_at events e free needed = record {
  events = events;
  start = later_of free needed;
  end = record { x = (later_of free needed).x + length_of e; u = (later_of free needed).u };
  came = free.u;
  row = 0;
}
