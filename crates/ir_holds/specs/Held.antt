-- Where boxes are that go from one step of their thread to another, from entering to leaving.
use Rattle.std.specs.Prelude.{◌≡◌, ℕ, ◌+◌, ◌-◌, ◌<◌, ◌≤◌, ◌⊎◌, List, length, map, Some}
use Rattle.std.specs.List.{slice_get}
use Rattle.ir_log.specs.declared.event.Event.{Event}
use Rattle.ir_trace.specs.Recorded.{Recorded, recorded_thread}
use Rattle.ir_past.specs.Past.{event_at}
use Rattle.ir_picture.specs.Places.{IsLeastAbove, EndsNeeded, length_of}
use Rattle.ir_picture.specs.declared.placed_box.Point.{Point}
use Rattle.ir_picture.specs.declared.placed_box.PlacedBox.{PlacedBox}
use Rattle.ir_holds.specs.declared.span.Span.{Span}

-- y is the least number from `from` on that is below none of these
pub record IsLeastFrom (from : ℕ) (These : ℕ → Type 0) (y : ℕ) : Type 0 where
  pub start : from ≤ y
  pub above : (z : ℕ) → These z → z ≤ y
  pub least : (w : ℕ) → from ≤ w → ((z : ℕ) → These z → z ≤ w) → y ≤ w

-- a box of thread t starts or ends at step k, and at this place
pub record IsMark (boxes : List PlacedBox) (spans : List Span) (t k : ℕ) (p : Point) : Type 0 where
  pub number : ℕ
  pub box : PlacedBox
  pub own : Span
  pub there : slice_get boxes number ≡ Some box
  pub goes : slice_get spans number ≡ Some own
  pub thread : own.thread ≡ t
  pub is : ((k ≡ own.first) × (p ≡ box.start)) ⊎ ((k ≡ own.last) × (p ≡ box.end))

-- the x at which a box of thread t starts or ends before its step k
pub record MarkedBefore (boxes : List PlacedBox) (spans : List Span) (t k z : ℕ) : Type 0 where
  pub step : ℕ
  pub place : Point
  pub mark : IsMark boxes spans t step place
  pub before : step < k
  pub x : place.x ≡ z

-- the u of step k of thread t, if each step since a box of the thread started or ended was as long as 1
pub record ComesFrom (boxes : List PlacedBox) (spans : List Span) (t k z : ℕ) : Type 0 where
  pub step : ℕ
  pub place : Point
  pub mark : IsMark boxes spans t step place
  pub before : step < k
  pub u : z ≡ place.u + (k - step)

-- the x that has to be left of the start of box b, which goes so
abbrev pub HasToBeLeft : Recorded → List PlacedBox → List Span → PlacedBox → Span → ℕ → Type 0
HasToBeLeft r boxes spans b own z = MarkedBefore boxes spans own.thread own.first z ⊎ EndsNeeded r boxes (λ p. p.x) b z

-- the u to which the start of box b comes by its thread's steps, or 1 past the end of what it needs
abbrev pub ComesTo : Recorded → List PlacedBox → List Span → PlacedBox → Span → ℕ → Type 0
ComesTo r boxes spans b own z =
    ComesFrom boxes spans own.thread own.first z ⊎ ((w : ℕ) × EndsNeeded r boxes (λ p. p.u) b w × (z ≡ w + 1))

-- the places of a box, which goes so. x is the longest path over the starts and ends of boxes, by the threads' order and the needs, which are met where
-- what is needed is left; u is the longest path where each step and each need is 1 long, and step k of a thread that waits for none is at
-- k + 1; `came` is where the box would start in u if it needed no other thread
pub record IsHeld (r : Recorded) (boxes : List PlacedBox) (spans : List Span) (b : PlacedBox) (own : Span) : Type 0 where
  pub start_x : IsLeastAbove 0 (HasToBeLeft r boxes spans b own) b.start.x
  pub end_x : (e : Event) → event_at r b.events.thread b.events.event ≡ Some e
      → IsLeastAbove (b.start.x + length_of e) (MarkedBefore boxes spans own.thread own.last) b.end.x
  pub start_u : IsLeastFrom (own.first + 1) (ComesTo r boxes spans b own) b.start.u
  pub end_u : IsLeastFrom b.start.u (ComesFrom boxes spans own.thread own.last) b.end.u
  pub came : IsLeastFrom (own.first + 1) (ComesFrom boxes spans own.thread own.first) b.came

-- where thread t ends: by x right of all of its boxes, by u after its last step
pub record IsHeldEnd (r : Recorded) (boxes : List PlacedBox) (spans : List Span) (t : ℕ) (p : Point) : Type 0 where
  pub x : IsLeastAbove 0 (MarkedBefore boxes spans t (recorded_thread r t).steps) p.x
  pub u : IsLeastFrom ((recorded_thread r t).steps + 1) (ComesFrom boxes spans t (recorded_thread r t).steps) p.u

-- boxes that go so are where they have to be, and their threads end there
pub record AreHeldAt (r : Recorded) (boxes : List PlacedBox) (spans : List Span) (ends : List Point) : Type 0 where
  pub placed : (k : ℕ) (b : PlacedBox) (own : Span) → slice_get boxes k ≡ Some b → slice_get spans k ≡ Some own → IsHeld r boxes spans b own
  pub threads : length ends ≡ length r.threads
  pub last : (t : ℕ) (p : Point) → slice_get ends t ≡ Some p → IsHeldEnd r boxes spans t p

-- the rows of boxes
abbrev pub rows_in : List PlacedBox → List ℕ
rows_in boxes = map (λ (b : PlacedBox). b.row) boxes
