use Rattle.std.proofs.Common.{◌≡◌, Some, None, refl}
use Rattle.ir_log.specs.declared.event.Event.TheVariants.{Read, Write}
use Rattle.ir_past.proofs.Open.{slice_get_from_get_or, holds_open_other_event, holds_open_after_read, holds_open_after_write, only_writes_are_stale, found_pair_is_stale, none_found_none_stale}
use Rattle.ir_past.proofs.last_reads.take_event.Goals as goal

pub returns-in-Answer-clause-holds : goal.returns-in-Answer-clause-holds
returns-in-Answer-clause-holds c = holds_open_other_event c.args.events.now c.args.place c.args.table.now _
    (slice_get_from_get_or c.args.events.now c.args.place _ _ c.requires.place c.in-Answer.is) (λ o e. let bad : None ≡ Some o = e in cc) c.requires.holds

pub returns-in-Answer-clause-none : goal.returns-in-Answer-clause-none
returns-in-Answer-clause-none c = only_writes_are_stale c.args.events.now c.args.place _
    (slice_get_from_get_or c.args.events.now c.args.place _ _ c.requires.place c.in-Answer.is) (λ o v l e. cc)

pub returns-in-Try-clause-holds : goal.returns-in-Try-clause-holds
returns-in-Try-clause-holds c = holds_open_other_event c.args.events.now c.args.place c.args.table.now _
    (slice_get_from_get_or c.args.events.now c.args.place _ _ c.requires.place c.in-Try.is) (λ o e. let bad : None ≡ Some o = e in cc) c.requires.holds

pub returns-in-Try-clause-none : goal.returns-in-Try-clause-none
returns-in-Try-clause-none c = only_writes_are_stale c.args.events.now c.args.place _
    (slice_get_from_get_or c.args.events.now c.args.place _ _ c.requires.place c.in-Try.is) (λ o v l e. cc)

pub note_read-requires : goal.note_read-requires
note_read-requires c = c.requires.fits c.args.place c.in-Read.object (Read c.in-Read.object c.in-Read.version)
    (slice_get_from_get_or c.args.events.now c.args.place _ _ c.requires.place c.in-Read.is) refl

pub returns-in-Read-clause-holds : goal.returns-in-Read-clause-holds
returns-in-Read-clause-holds c = rw c.note_read.ensures
    (holds_open_after_read c.args.events.now c.args.place c.in-Read.object c.in-Read.version c.args.table.now
    (slice_get_from_get_or c.args.events.now c.args.place _ _ c.requires.place c.in-Read.is)
    (c.requires.fits c.args.place c.in-Read.object (Read c.in-Read.object c.in-Read.version)
    (slice_get_from_get_or c.args.events.now c.args.place _ _ c.requires.place c.in-Read.is) refl)
    c.requires.holds)

pub returns-in-Read-clause-none : goal.returns-in-Read-clause-none
returns-in-Read-clause-none c = only_writes_are_stale c.args.events.now c.args.place _
    (slice_get_from_get_or c.args.events.now c.args.place _ _ c.requires.place c.in-Read.is) (λ o v l e. cc)

pub take_read-before-requires : goal.take_read-before-requires
take_read-before-requires c = c.requires.fits c.args.place c.in-Write.object (Write c.in-Write.object c.in-Write.version c.in-Write.readers)
    (slice_get_from_get_or c.args.events.now c.args.place _ _ c.requires.place c.in-Write.is) refl

pub returns-in-Write-clause-holds : goal.returns-in-Write-clause-holds
returns-in-Write-clause-holds c = rw c.take_read-before.ensures.rest
    (holds_open_after_write c.args.events.now c.args.place c.in-Write.object c.in-Write.version _ c.args.table.now
    (slice_get_from_get_or c.args.events.now c.args.place _ _ c.requires.place c.in-Write.is)
    (c.requires.fits c.args.place c.in-Write.object _ (slice_get_from_get_or c.args.events.now c.args.place _ _ c.requires.place c.in-Write.is) refl)
    c.requires.holds)

pub returns-in-Write-clause-found : goal.returns-in-Write-clause-found
returns-in-Write-clause-found c = found_pair_is_stale c.args.events.now c.args.place c.in-Write.object c.in-Write.version _ c.args.table.now
    c.take_read-before.result c.stale_pair.result (slice_get_from_get_or c.args.events.now c.args.place _ _ c.requires.place c.in-Write.is) c.requires.holds
    c.take_read-before.ensures.value c.stale_pair.ensures.found

pub returns-in-Write-clause-none : goal.returns-in-Write-clause-none
returns-in-Write-clause-none c = none_found_none_stale c.args.events.now c.args.place c.in-Write.object c.in-Write.version _ c.args.table.now
    c.take_read-before.result c.stale_pair.result (slice_get_from_get_or c.args.events.now c.args.place _ _ c.requires.place c.in-Write.is) c.requires.holds
    c.take_read-before.ensures.value c.stale_pair.ensures.none
