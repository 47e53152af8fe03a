use Rattle.std.proofs.Common.{List, sym, subst}
use Rattle.ir_trace.specs.Recorded.{Recorded}
use Rattle.ir_past.specs.Answers.{AreCoherent}
use Rattle.ir_past.specs.declared.place.Place.{Place}
use Rattle.ir_opened.proofs.CallerLemmas.{run_trace_is_coherent, inside_below_events}
use Rattle.ir_why.specs.FitAnswers.{AreEventsInside}
use Rattle.ir_why.specs.Tables.{AreThere}
use Rattle.ir_why.proofs.Within.{trace_events_are_inside}
use Rattle.ir_why.proofs.leaves.needs_of.Goals as goal

pub needs_of-requires-clause-coherent : goal.needs_of-requires-clause-coherent
needs_of-requires-clause-coherent c = subst AreCoherent (sym c.trace.ensures.value) (run_trace_is_coherent c.args.fitted.now c.known.ensures.run)

pub needs_of-requires-clause-event : goal.needs_of-requires-clause-event
needs_of-requires-clause-event c = inside_below_events c.args.fitted.now c.known.ensures.run c.args.here.thread c.args.here.event c.requires.inside
    c.trace.result.now c.trace.ensures.value

pub needs_left-requires : goal.needs_left-requires
needs_left-requires c = subst (λ (ps : List Place). AreEventsInside c.args.fitted.now ps) (sym c.deref.ensures.value)
    (trace_events_are_inside c.args.fitted.now c.known.ensures.run c.in_ok-places.places.items
    (subst (λ (r : Recorded). AreThere r c.in_ok-places.places.items) c.trace.ensures.value c.in_ok-places.ensures.there))
