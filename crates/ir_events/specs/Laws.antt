-- What holds of the positions of events.
use Rattle.std.specs.Prelude.{◌≡◌, ◌<◌, ℕ, length, slice_get, Some}
use Rattle.ir_runs.specs.Run.{Emits}
use Rattle.ir_log.specs.Logging.{label_of}
use Rattle.ir_log.specs.declared.event.Event.{Event}
use Rattle.ir_trace.specs.Recorded.{recorded_thread}
use Rattle.ir_fit.specs.Fit.{FittedTrace, HasRun}
use Rattle.ir_cut.specs.Positions.{EachRun, machine_of, start_of}
use Rattle.ir_events.specs.Events.{event_entry}

-- in each run with the trace, the step at the position of an event logs that event
abbrev pub EventsLogged : Type 0
EventsLogged = (f : FittedTrace) → HasRun f → (t i : ℕ) (e : Event) → t < length f.guest.entries
    → slice_get (recorded_thread f.recorded t).events i ≡ Some e
    → EachRun f (λ run. Emits (machine_of f) (start_of f) run t (event_entry f t i) (label_of e))
