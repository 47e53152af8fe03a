-- Which boxes and stale writes of a picture are shown.
use Rattle.std.specs.Prelude.{◌≡◌, ℕ, ◌+◌, ◌==◌, ◌&&◌, ◌||◌, List, [], ◌∷◌, Bool, false, filter, Option, Some, None, nat_le, nat_lt}
use Rattle.std.specs.List.{slice_get}
use Rattle.ir_past.specs.declared.stale_write.StaleWrite.{StaleWrite}
use Rattle.ir_picture.specs.Boxes.{IsInBox}
use Rattle.ir_picture.specs.declared.asked.Around.{Around}
use Rattle.ir_picture.specs.declared.event_box.EventBox.{EventBox}
use Rattle.ir_picture.specs.declared.placed_box.PlacedBox.{PlacedBox}

-- a box with an event of a thread starts at x
pub record StartsAt (boxes : List PlacedBox) (t i x : ℕ) : Type 0 where
  pub number : ℕ
  pub box : PlacedBox
  pub there : slice_get boxes number ≡ Some box
  pub has : IsInBox box.events t i
  pub start : box.start.x ≡ x

-- whether a box starts within `span` of x
abbrev pub is_near : ℕ → ℕ → PlacedBox → Bool
is_near x span b = nat_le b.start.x (x + span) && nat_le x (b.start.x + span)

-- whether a box begins with event i of thread t or before it
abbrev pub begins_by : ℕ → ℕ → EventBox → Bool
begins_by t i b = nat_lt b.thread t || ((b.thread == t) && nat_le b.event i)

-- whether event i of thread t is in a box
abbrev pub is_in : ℕ → ℕ → PlacedBox → Bool
is_in t i b = (b.events.thread == t) && (nat_le b.events.event i && nat_lt i (b.events.event + b.events.count))

-- whether event i of thread t is in one of these boxes
unfoldable pub has_box : List PlacedBox → ℕ → ℕ → Bool
has_box [] t i = false
has_box (b ∷ bs) t i = is_in t i b || has_box bs t i

-- the boxes that are shown: all, or those that start near the event that is asked about
abbrev pub AreShown : List PlacedBox → Option Around → List PlacedBox → Type 0
AreShown all None shown = shown ≡ all
AreShown all (Some near) shown = (x : ℕ) × StartsAt all near.thread near.event x × (shown ≡ filter (is_near x near.span) all)

-- whether a stale write is shown where these boxes are: the write and the read are in them
abbrev pub is_shown : List PlacedBox → StaleWrite → Bool
is_shown shown x = has_box shown x.thread x.event && has_box shown x.thread x.read

-- the stale writes that are shown where these boxes are
abbrev pub shown_stale : List PlacedBox → List StaleWrite → List StaleWrite
shown_stale shown rows = filter (is_shown shown) rows
