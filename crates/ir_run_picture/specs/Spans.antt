-- From which step to which a box of a run goes.
use Rattle.std.specs.Prelude.{◌≡◌, ℕ, ◌+◌, ◌-◌, Some}
use Rattle.ir_fit.specs.Fit.{FittedTrace}
use Rattle.ir_past.specs.Past.{event_at}
use Rattle.ir_events.specs.Events.{event_entry}
use Rattle.ir_picture.specs.declared.event_box.EventBox.{EventBox}
use Rattle.ir_run_picture.specs.Steps.{IsLastStep}
use Rattle.ir_holds.specs.declared.span.Span.{Span}

-- the last event of a box, by its place in the thread's log
abbrev pub last_event : EventBox → ℕ
last_event b = b.event + (b.count - 1)

-- a box goes from the step that logs its first event to the last step of its last event
pub record IsSpanOfBox (f : FittedTrace) (b : EventBox) (s : Span) : Type 0 where
  pub thread : s.thread ≡ b.thread
  pub first : s.first ≡ event_entry f b.thread b.event
  pub last : IsLastStep f b.thread (last_event b) (event_at f.recorded b.thread (last_event b)) (Some s.last)
