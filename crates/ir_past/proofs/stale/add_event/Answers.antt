use Rattle.std.proofs.Common.{◌+◌, List, ℕ, sym, subst, arith}
use Rattle.ir_log.specs.declared.event.Event.{Event}
use Rattle.ir_past.specs.Past.{IsStaleIn}
use Rattle.ir_past.specs.Progress.{HoldsOpen, FitsSoFar, IsPairAt}
use Rattle.ir_past.proofs.Rows.{has_rows_without_stale}
use Rattle.ir_past.proofs.stale.add_event.Goals as goal

pub take_event-requires-clause-place : goal.take_event-requires-clause-place
take_event-requires-clause-place c = omega (arith, c.requires.event, c.events_of-events.ensures.count)

pub take_event-requires-clause-holds : goal.take_event-requires-clause-holds
take_event-requires-clause-holds c = subst (λ (es : List Event). HoldsOpen es c.args.place.event c.args.table.now)
    (sym c.events_of-events.ensures.events) c.requires.holds

pub take_event-requires-clause-fits : goal.take_event-requires-clause-fits
take_event-requires-clause-fits c = subst (λ (n : ℕ). FitsSoFar c.events_of-events.result.now n) (sym c.requires.table) c.events_of-events.ensures.fits

pub add_row-requires-clause-pair : goal.add_row-requires-clause-pair
add_row-requires-clause-pair c = subst (λ (es : List Event). IsPairAt es c.args.place.event c.in-Some.pair) c.events_of-events.ensures.events
    c.in-Some.ensures.found

pub returns-in-None-clause-rows : goal.returns-in-None-clause-rows
returns-in-None-clause-rows c = has_rows_without_stale c.args.trace.now c.args.place.thread c.args.place.event c.args.rows.now.items c.requires.rows
    (λ i o v w s. c.in-None.ensures.none i o v w
    (subst (λ (es : List Event). IsStaleIn es i c.args.place.event o v w) (sym c.events_of-events.ensures.events) s))

pub returns-in-None-clause-holds : goal.returns-in-None-clause-holds
returns-in-None-clause-holds c = subst (λ (es : List Event). HoldsOpen es (c.args.place.event + 1) c.take_event.new.table)
    c.events_of-events.ensures.events c.in-None.ensures.holds

pub returns-in-Some-clause-holds : goal.returns-in-Some-clause-holds
returns-in-Some-clause-holds c = subst (λ (es : List Event). HoldsOpen es (c.args.place.event + 1) c.take_event.new.table)
    c.events_of-events.ensures.events c.in-Some.ensures.holds
