-- Where the boxes of a picture are.
use Rattle.std.specs.Prelude.{◌≡◌, ℕ, ◌+◌, ◌<◌, ◌≤◌, ◌⊎◌, List, Some, map, length}
use Rattle.std.specs.List.{slice_get}
use Rattle.ir_log.specs.declared.event.Event.{Event}
use Rattle.ir_log.specs.declared.event.Event.TheVariants.{Answer, Read, Write, Try}
use Rattle.ir_trace.specs.Recorded.{Recorded}
use Rattle.ir_past.specs.Past.{event_at}
use Rattle.ir_picture.specs.Needs.{Needs}
use Rattle.ir_picture.specs.Boxes.{IsInBox, AreBoxes}
use Rattle.ir_picture.specs.declared.event_box.EventBox.{EventBox}
use Rattle.ir_picture.specs.declared.placed_box.Point.{Point}
use Rattle.ir_picture.specs.declared.placed_box.PlacedBox.{PlacedBox}

-- y is the least number from `from` on that is above all these
pub record IsLeastAbove (from : ℕ) (These : ℕ → Type 0) (y : ℕ) : Type 0 where
  pub start : from ≤ y
  pub above : (z : ℕ) → These z → z < y
  pub least : (w : ℕ) → from ≤ w → ((z : ℕ) → These z → z < w) → y ≤ w

-- box b needs box a: an event of b needs one of a
pub record NeedsBox (r : Recorded) (b a : EventBox) : Type 0 where
  pub event : ℕ
  pub needed : ℕ
  pub own : IsInBox b b.thread event
  pub other : IsInBox a a.thread needed
  pub needs : Needs r b.thread event a.thread needed

-- box a is an earlier one of b's thread
abbrev pub IsEarlier : EventBox → EventBox → Type 0
IsEarlier b a = (a.thread ≡ b.thread) × (a.event < b.event)

-- the number at which an earlier box of b's thread ends, by one of the two numbers of its places
pub record EndsEarlier (boxes : List PlacedBox) (number : Point → ℕ) (b : PlacedBox) (z : ℕ) : Type 0 where
  pub at : ℕ
  pub box : PlacedBox
  pub there : slice_get boxes at ≡ Some box
  pub earlier : IsEarlier b.events box.events
  pub ends : number box.end ≡ z

-- the number at which a box that b needs ends
pub record EndsNeeded (r : Recorded) (boxes : List PlacedBox) (number : Point → ℕ) (b : PlacedBox) (z : ℕ) : Type 0 where
  pub at : ℕ
  pub box : PlacedBox
  pub there : slice_get boxes at ≡ Some box
  pub needs : NeedsBox r b.events box.events
  pub ends : number box.end ≡ z

-- the number at which a box ends that has to end before b starts
abbrev pub EndsBefore : Recorded → List PlacedBox → (Point → ℕ) → PlacedBox → ℕ → Type 0
EndsBefore r boxes number b z = EndsEarlier boxes number b z ⊎ EndsNeeded r boxes number b z

-- how long a box is in x: an answer of the environment has no length
abbrev pub length_of : Event → ℕ
length_of (Answer kind value) = 0
length_of (Read object version) = 1
length_of (Write object version readers) = 1
length_of (Try object) = 1

-- the places of a box. x is the longest path over the starts and ends of boxes, by the threads' order and the needs; u is the longest one where
-- a box ends as it starts, and each thread begins at 1; `came` is where it would start in u if it needed no other thread. All boxes have
-- row 0, since a trace doesn't say how long an object is held
pub record IsPlacedBox (r : Recorded) (boxes : List PlacedBox) (b : PlacedBox) : Type 0 where
  pub start_x : IsLeastAbove 0 (EndsBefore r boxes (λ p. p.x) b) b.start.x
  pub end_x : (e : Event) → event_at r b.events.thread b.events.event ≡ Some e → b.end.x ≡ b.start.x + length_of e
  pub start_u : IsLeastAbove 1 (EndsBefore r boxes (λ p. p.u) b) b.start.u
  pub end_u : b.end.u ≡ b.start.u
  pub came : IsLeastAbove 1 (EndsEarlier boxes (λ p. p.u) b) b.came
  pub row : b.row ≡ 0

-- the number at which a box of thread t ends
pub record EndsIn (boxes : List PlacedBox) (number : Point → ℕ) (t z : ℕ) : Type 0 where
  pub at : ℕ
  pub box : PlacedBox
  pub there : slice_get boxes at ≡ Some box
  pub thread : box.events.thread ≡ t
  pub ends : number box.end ≡ z

-- where thread t ends: after all of its boxes
pub record IsThreadEnd (boxes : List PlacedBox) (t : ℕ) (p : Point) : Type 0 where
  pub x : IsLeastAbove 0 (EndsIn boxes (λ q. q.x) t) p.x
  pub u : IsLeastAbove 1 (EndsIn boxes (λ q. q.u) t) p.u

-- the boxes of a trace with their places, and the ends of its threads
pub record AreBoxesPlaced (r : Recorded) (boxes : List PlacedBox) (ends : List Point) : Type 0 where
  pub all : AreBoxes r (map (λ b. b.events) boxes)
  pub placed : (k : ℕ) (b : PlacedBox) → slice_get boxes k ≡ Some b → IsPlacedBox r boxes b
  pub threads : length ends ≡ length r.threads
  pub last : (t : ℕ) (p : Point) → slice_get ends t ≡ Some p → IsThreadEnd boxes t p

-- what a reader may rely on: a need ends left of the start of what needs it, for x and for u
abbrev pub NeedsAreLeft : Recorded → List PlacedBox → Type 0
NeedsAreLeft r boxes = (k m : ℕ) (a b : PlacedBox) → slice_get boxes k ≡ Some a → slice_get boxes m ≡ Some b → NeedsBox r b.events a.events
    → (a.end.x < b.start.x) × (a.end.u < b.start.u)

-- the law: it holds wherever boxes are placed
abbrev pub PlacedNeedsAreLeft : Type 0
PlacedNeedsAreLeft = (r : Recorded) (boxes : List PlacedBox) (ends : List Point) → AreBoxesPlaced r boxes ends → NeedsAreLeft r boxes
