use Rattle.std.proofs.Common.{◌∙◌, ◌+◌, length, sym, subst}
use Rattle.ir_picture.specs.Seeing.{HoldsEntries}
use Rattle.ir_picture.proofs.Seen.{entry_object_below, holds_entries_other, holds_entries_entry, sees_new_unless_noted, noted_sees_nothing_new, no_entry_sees_nothing}
use Rattle.ir_picture.proofs.sighting.note.Goals as goal

pub turn-before-requires : goal.turn-before-requires
turn-before-requires c = entry_object_below c.args.trace.now c.args.here.thread c.args.here.event c.in-Some.found.object c.in-Some.found.version c.event_of.result
    (length c.args.last.now) c.event_of.ensures c.in-Some.ensures.found c.requires.fits

pub returns-in-None-clause-holds : goal.returns-in-None-clause-holds
returns-in-None-clause-holds c = holds_entries_other c.args.trace.now c.args.here.thread c.args.here.event c.args.last.now c.event_of.result c.event_of.ensures
    c.in-None.ensures.none c.requires.holds

pub returns-in-None-clause-none : goal.returns-in-None-clause-none
returns-in-None-clause-none c = no_entry_sees_nothing c.args.trace.now c.args.here.thread c.args.here.event c.event_of.result c.event_of.ensures c.in-None.ensures.none

pub returns-then-is_noted-clause-holds : goal.returns-then-is_noted-clause-holds
returns-then-is_noted-clause-holds c = subst (HoldsEntries c.args.trace.now c.args.here.thread (c.args.here.event + 1)) (sym c.turn-before.ensures.rest)
    (holds_entries_entry c.args.trace.now c.args.here.thread c.args.here.event c.in-Some.found.object c.in-Some.found.version c.args.last.now c.event_of.result
    c.event_of.ensures c.in-Some.ensures.found
    (entry_object_below c.args.trace.now c.args.here.thread c.args.here.event c.in-Some.found.object c.in-Some.found.version c.event_of.result
    (length c.args.last.now) c.event_of.ensures c.in-Some.ensures.found c.requires.fits) c.requires.holds)

pub returns-then-is_noted-clause-none : goal.returns-then-is_noted-clause-none
returns-then-is_noted-clause-none c = noted_sees_nothing_new c.args.trace.now c.args.here.thread c.args.here.event c.in-Some.found.object c.in-Some.found.version
    c.args.last.now c.event_of.result c.event_of.ensures c.in-Some.ensures.found c.requires.holds
    (sym c.turn-before.ensures.value ∙ c.is_noted.ensures.set c.if-is_noted.true)

pub returns-else-is_noted-clause-holds : goal.returns-else-is_noted-clause-holds
returns-else-is_noted-clause-holds c = subst (HoldsEntries c.args.trace.now c.args.here.thread (c.args.here.event + 1)) (sym c.turn-before.ensures.rest)
    (holds_entries_entry c.args.trace.now c.args.here.thread c.args.here.event c.in-Some.found.object c.in-Some.found.version c.args.last.now c.event_of.result
    c.event_of.ensures c.in-Some.ensures.found
    (entry_object_below c.args.trace.now c.args.here.thread c.args.here.event c.in-Some.found.object c.in-Some.found.version c.event_of.result
    (length c.args.last.now) c.event_of.ensures c.in-Some.ensures.found c.requires.fits) c.requires.holds)

pub returns-else-is_noted-clause-found : goal.returns-else-is_noted-clause-found
returns-else-is_noted-clause-found c = sees_new_unless_noted c.args.trace.now c.args.here.thread c.args.here.event c.in-Some.found.object c.in-Some.found.version
    c.args.last.now c.event_of.result c.event_of.ensures c.in-Some.ensures.found c.requires.holds
    (λ noted. c.is_noted.ensures.clear c.if-is_noted.false (c.turn-before.ensures.value ∙ noted))
