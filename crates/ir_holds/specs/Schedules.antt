-- In which order the threads take the steps of boxes.
use Rattle.std.specs.Prelude.{◌≡◌, ℕ, ◌+◌, ◌-◌, ◌^◌, ◌<◌, ◌≤◌, List, length, Some}
use Rattle.std.specs.List.{slice_get}
use Rattle.ir_runs.specs.Verdicts.{sum_below}
use Rattle.ir_trace.specs.Recorded.{Recorded, recorded_thread}
use Rattle.ir_picture.specs.Places.{NeedsBox}
use Rattle.ir_picture.specs.Placing.{events_of_all}
use Rattle.ir_picture.specs.declared.event_box.EventBox.{EventBox}
use Rattle.ir_picture.specs.declared.placed_box.Point.{Point}
use Rattle.ir_picture.specs.declared.placed_box.PlacedBox.{PlacedBox}
use Rattle.ir_holds.specs.Held.{IsHeld, rows_in}
use Rattle.ir_holds.specs.declared.span.Span.{Span}

-- the steps of threads are numbered, step k of thread t by `at t k`: the steps of a thread have rising numbers, a box doesn't end before it starts, and
-- its last step is one of its thread's, and each box starts after all ends of boxes that it needs
pub record IsSpotSchedule (r : Recorded) (events : List EventBox) (spans : List Span) (at : ℕ → ℕ → ℕ) : Type 0 where
  pub rises : (t j k : ℕ) → j < k → at t j < at t k
  pub goes : (n : ℕ) (own : Span) → slice_get spans n ≡ Some own → own.first ≤ own.last
  pub within : (n : ℕ) (own : Span) → slice_get spans n ≡ Some own → own.last < (recorded_thread r own.thread).steps
  pub needs : (m n : ℕ) (a b : EventBox) (s own : Span) → slice_get events m ≡ Some a → slice_get spans m ≡ Some s → slice_get events n ≡ Some b
      → slice_get spans n ≡ Some own → NeedsBox r b a → at s.thread s.last < at own.thread own.first

-- there is such an order of the steps
abbrev pub HasSchedule : Recorded → List EventBox → List Span → Type 0
HasSchedule r events spans = (at : ℕ → ℕ → ℕ) × IsSpotSchedule r events spans at

-- all threads together took this many steps
abbrev pub all_steps : Recorded → ℕ
all_steps r = sum_below (length r.threads) (λ t. (recorded_thread r t).steps)

-- the same order, with numbers that rise by as many as a thread's steps at least, and that are below 2 ^ 53 where boxes end
pub record IsPacing (r : Recorded) (events : List EventBox) (spans : List Span) (at : ℕ → ℕ → ℕ) : Type 0 where
  pub rises : (t j k : ℕ) → j ≤ k → at t j + (k - j) ≤ at t k
  pub goes : (n : ℕ) (own : Span) → slice_get spans n ≡ Some own → own.first ≤ own.last
  pub needs : (m n : ℕ) (a b : EventBox) (s own : Span) → slice_get events m ≡ Some a → slice_get spans m ≡ Some s → slice_get events n ≡ Some b
      → slice_get spans n ≡ Some own → NeedsBox r b a → at s.thread s.last < at own.thread own.first
  pub low : (n : ℕ) (own : Span) → slice_get spans n ≡ Some own → at own.thread own.last < 2 ^ 53

abbrev pub HasPacing : Recorded → List EventBox → List Span → Type 0
HasPacing r events spans = (at : ℕ → ℕ → ℕ) × IsPacing r events spans at

-- each box is where it has to be
abbrev pub EachIsHeld : Recorded → List PlacedBox → List Span → Type 0
EachIsHeld r boxes spans = (k : ℕ) (b : PlacedBox) (s : Span) → slice_get boxes k ≡ Some b → slice_get spans k ≡ Some s → IsHeld r boxes spans b s

-- a place that is not too far, and not before step k
pub record IsNear (k : ℕ) (p : Point) : Type 0 where
  pub x : p.x < 2 ^ 54
  pub u : p.u < 2 ^ 54
  pub late : k ≤ p.u

-- the steps of boxes aren't too far, and neither are their starts and ends
pub record AreNear (boxes : List PlacedBox) (spans : List Span) : Type 0 where
  pub first : (n : ℕ) (own : Span) → slice_get spans n ≡ Some own → own.first < 2 ^ 54
  pub last : (n : ℕ) (own : Span) → slice_get spans n ≡ Some own → own.last < 2 ^ 54
  pub start : (n : ℕ) (b : PlacedBox) (own : Span) → slice_get boxes n ≡ Some b → slice_get spans n ≡ Some own → IsNear own.first b.start
  pub end : (n : ℕ) (b : PlacedBox) (own : Span) → slice_get boxes n ≡ Some b → slice_get spans n ≡ Some own → IsNear own.last b.end

-- a place is another one, unless that is too far or before step k
pub record IsNearestSpot (k : ℕ) (p q : Point) : Type 0 where
  pub near : k < 2 ^ 54 → IsNear k q
  pub same : IsNear k p → q ≡ p

-- box c is box b, put where it has to be by where all boxes are, unless that is too far
pub record IsPut (r : Recorded) (boxes : List PlacedBox) (spans : List Span) (own : Span) (b c : PlacedBox) : Type 0 where
  pub right : PlacedBox
  pub held : IsHeld r boxes spans right own
  pub same : right.events ≡ b.events
  pub events : c.events ≡ b.events
  pub row : c.row ≡ b.row
  pub came : c.came ≡ right.came
  pub start : IsNearestSpot own.first right.start c.start
  pub end : IsNearestSpot own.last right.end c.end

-- all boxes are put so
pub record ArePut (r : Recorded) (boxes : List PlacedBox) (spans : List Span) (put : List PlacedBox) : Type 0 where
  pub events : events_of_all put ≡ events_of_all boxes
  pub rows : rows_in put ≡ rows_in boxes
  pub each : (n : ℕ) (b c : PlacedBox) (own : Span) → slice_get boxes n ≡ Some b → slice_get put n ≡ Some c → slice_get spans n ≡ Some own
      → IsPut r boxes spans own b c
