-- What is kept of one run with a trace is so of each.
use Rattle.std.proofs.Common.{List, get_or, subst}
use Rattle.std.proofs.lemmas.Option.{slice_get_within, get_or_from_slice_get}
use Rattle.ir_thread.specs.State as thread
use Rattle.ir_runs.specs.Machine.{Label}
use Rattle.ir_runs.specs.Run.{At, Emits}
use Rattle.ir_log.specs.Logging.{label_of}
use Rattle.ir_log.specs.declared.event.Event.{Event}
use Rattle.ir_trace.specs.Recorded.{recorded_thread}
use Rattle.ir_fit.proofs.CallerLemmas.{event_position_emits}
use Rattle.ir_cut.specs.Positions.{machine_of, start_of}
use Rattle.ir_cut.proofs.CallerLemmas.{trail_same_in_runs}
use Rattle.ir_events.specs.Events.{event_entry}
use Rattle.ir_events.specs.Laws.{EventsLogged}

-- the step at the position of an event emits what is logged of it
pub events_are_logged : EventsLogged
events_are_logged f h t i e l is run whole =
    let es : List Event = (recorded_thread f.recorded t).events in
    let emitted = event_position_emits f h t l i e (slice_get_within es i e is) in
    subst (λ x. Emits (machine_of f) (start_of f) run t (event_entry f t i) (label_of x)) (get_or_from_slice_get es i e e is) (
      emitted.0,
      subst (λ (steps : List (thread.ThreadState × Label)). At steps (event_entry f t i) (emitted.0, label_of (get_or es i e)))
          (trail_same_in_runs f h.run run h.whole whole t) emitted.1,
    )
