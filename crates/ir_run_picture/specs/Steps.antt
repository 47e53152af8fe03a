-- The last steps of the boxes of a picture.
use Rattle.std.specs.Prelude.{◌≡◌, ℕ, List, length, Option, Some, None}
use Rattle.std.specs.List.{slice_get}
use Rattle.ir_log.specs.declared.event.Event.{Event}
use Rattle.ir_log.specs.declared.event.Event.TheVariants.{Answer, Read, Write, Try}
use Rattle.ir_fit.specs.Fit.{FittedTrace}
use Rattle.ir_past.specs.Past.{event_at}
use Rattle.ir_events.specs.Events.{event_entry}
use Rattle.ir_opened.specs.Positions.{IsLeft}
use Rattle.ir_picture.specs.declared.placed_box.PlacedBox.{PlacedBox}
use Rattle.ir_run_picture.specs.declared.drawn.Drawn.{Drawn}

-- the position before the last step of event i of thread t, which is this event: of an entry the step that leaves, of another event its own
abbrev pub IsLastStep : FittedTrace → ℕ → ℕ → Option Event → Option ℕ → Type 0
IsLastStep f t i None last = ⊥
IsLastStep f t i (Some (Answer kind value)) last = last ≡ Some (event_entry f t i)
IsLastStep f t i (Some (Read o v)) last = IsLeft f t i last
IsLastStep f t i (Some (Write o v readers)) last = IsLeft f t i last
IsLastStep f t i (Some (Try o)) last = last ≡ Some (event_entry f t i)

-- a box with its last step, which is only looked at where the box has one event
pub record IsDrawn (f : FittedTrace) (b : PlacedBox) (d : Drawn) : Type 0 where
  pub box : d.own ≡ b
  pub last : b.events.count ≡ 1 → IsLastStep f b.events.thread b.events.event (event_at f.recorded b.events.thread b.events.event) d.last

-- boxes with their last steps
pub record AreDrawn (f : FittedTrace) (boxes : List PlacedBox) (drawn : List Drawn) : Type 0 where
  pub size : length drawn ≡ length boxes
  pub each : (k : ℕ) (b : PlacedBox) (d : Drawn) → slice_get boxes k ≡ Some b → slice_get drawn k ≡ Some d → IsDrawn f b d
