-- The starts and ends of boxes, and how they are noted.
use Rattle.std.specs.Prelude.{ℕ, ◌+◌, ◌-◌, ◌*◌, ◌^◌, ◌<◌, ◌≤◌, List, map}
use Rattle.std.specs.List.{Contains}
use Rattle.std.specs.List.Sorted.{IsPermutation}
use Rattle.ir_picture.specs.declared.placed_box.Point.{Point}
use Rattle.ir_picture.specs.declared.placed_box.PlacedBox.{PlacedBox}
use Rattle.ir_holds.specs.Held.{IsMark}
use Rattle.ir_holds.specs.Heights.{AreHeights}
use Rattle.ir_holds.specs.declared.span.Span.{Span}
use Rattle.ir_holds.specs.declared.heights.Height.{Height}
use Rattle.ir_holds.specs.declared.stops.Stop.{Stop}
use Rattle.ir_holds.specs.declared.marks.Marks.{Marks}

-- all at which boxes that go so start or end
pub record AreStopPlaces (boxes : List PlacedBox) (spans : List Span) (stops : List Stop) : Type 0 where
  pub each : (s : Stop) → Contains stops s → IsMark boxes spans s.thread s.step s.place
  pub all : (t k : ℕ) (p : Point) → IsMark boxes spans t k p → Contains stops (record { thread = t; step = k; place = p })

-- a start or an end that isn't too far, and not before its step
pub record IsStopNear (s : Stop) : Type 0 where
  pub x : s.place.x < 2 ^ 54
  pub u : s.place.u < 2 ^ 54
  pub step : s.step < 2 ^ 54
  pub late : s.step ≤ s.place.u

-- number n of thread t: all numbers of a thread are below those of the next one
abbrev pub stop_number : ℕ → ℕ → ℕ
stop_number t n = t * 2 ^ 54 + n

-- the first x right of a start or an end, at its step
abbrev pub right_height : Stop → Height
right_height s = record { at = stop_number s.thread s.step; top = stop_number s.thread (s.place.x + 1) }

-- 1 more than its u is ahead of its step, at its step
abbrev pub late_height : Stop → Height
late_height s = record { at = stop_number s.thread s.step; top = stop_number s.thread (s.place.u - s.step + 1) }

-- starts and ends are noted by both
pub record AreNoted (stops : List Stop) (m : Marks) : Type 0 where
  pub near : (s : Stop) → Contains stops s → IsStopNear s
  pub right : AreHeights m.right
  pub rights : IsPermutation (map right_height stops) m.right.each.items
  pub late : AreHeights m.late
  pub lates : IsPermutation (map late_height stops) m.late.each.items

-- the starts and ends of boxes that go so are noted
pub record HoldsMarks (boxes : List PlacedBox) (spans : List Span) (m : Marks) : Type 0 where
  pub stops : List Stop
  pub are : AreStopPlaces boxes spans stops
  pub noted : AreNoted stops m

-- those of some boxes are
abbrev pub HasMarks : Marks → Type 0
HasMarks m = (stops : List Stop) × AreNoted stops m
