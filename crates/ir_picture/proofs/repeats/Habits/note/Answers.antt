use Rattle.std.proofs.Common.{◌≡◌, ◌+◌, ◌∙◌, List, Some, None, vec_len, slice_set, refl, sym, ap, arith}
use Rattle.ir_log.specs.declared.event.Event.{Event}
use Rattle.ir_log.specs.declared.event.Event.TheVariants.{Answer, Read, Write, Try}
use Rattle.ir_picture.specs.Boxing.{version_noted}
use Rattle.ir_picture.proofs.Noting.{notes_from_parts, holds_reads_other_event, holds_reads_after_read, holds_reads_after_write}
use Rattle.ir_picture.proofs.Noting.{holds_no_try, holds_try_after_try, other_repeats_nothing, reads_again_if_noted}
use Rattle.ir_picture.proofs.Noting.{read_repeats_only_noted, tries_again_if_noted, try_repeats_only_noted}
use Rattle.ir_past.proofs.CallerLemmas.{slice_get_from_get_or}
use Rattle.ir_picture.proofs.repeats.Habits.note.Goals as goal

pub turn-before-requires : goal.turn-before-requires
turn-before-requires c = omega (
  arith,
  c.requires.fits c.args.place c.in-Read.object (Read c.in-Read.object c.in-Read.version)
      (slice_get_from_get_or c.args.events.now c.args.place _ _ c.requires.place c.in-Read.is) refl,
  ap vec_len c.turn_try-in-Read.ensures.read,
)

pub turn-requires : goal.turn-requires
turn-requires c = omega (
  arith,
  c.requires.fits c.args.place c.in-Write.object (Write c.in-Write.object c.in-Write.version c.in-Write.readers)
      (slice_get_from_get_or c.args.events.now c.args.place _ _ c.requires.place c.in-Write.is) refl,
  ap vec_len c.turn_try-in-Write.ensures.read,
)

pub returns-in-Answer-clause-notes : goal.returns-in-Answer-clause-notes
returns-in-Answer-clause-notes c =
    let es : List Event = c.args.events.now in
    let n = c.args.place in
    let at = slice_get_from_get_or es n _ _ c.requires.place c.in-Answer.is in
    notes_from_parts es (n + 1) c.args.self.now.read.items None c.turn_try.new.self (ap (λ t. t.items) c.turn_try.ensures.read) c.turn_try.ensures.tried
    (holds_reads_other_event es n c.args.self.now.read.items (Answer c.in-Answer.field-0 c.in-Answer.field-1) at (λ o is. let bad : None ≡ Some o = is in cc) c.requires.notes.reads)
    (holds_no_try es n (Answer c.in-Answer.field-0 c.in-Answer.field-1) at (λ o is. cc))

pub returns-in-Answer-clause-repeat : goal.returns-in-Answer-clause-repeat
returns-in-Answer-clause-repeat c =
    let es : List Event = c.args.events.now in
    let n = c.args.place in
    let at = slice_get_from_get_or es n _ _ c.requires.place c.in-Answer.is in
    other_repeats_nothing es n (Answer c.in-Answer.field-0 c.in-Answer.field-1) at (λ o v is. cc) (λ o is. cc)

pub returns-then-is_noted-clause-notes : goal.returns-then-is_noted-clause-notes
returns-then-is_noted-clause-notes c =
    let es : List Event = c.args.events.now in
    let n = c.args.place in
    let at = slice_get_from_get_or es n _ _ c.requires.place c.in-Read.is in
    let kept = ap (λ t. t.items) c.turn_try-in-Read.ensures.read in
    let fits = c.requires.fits n c.in-Read.object (Read c.in-Read.object c.in-Read.version) at refl in
    notes_from_parts es (n + 1) (slice_set c.args.self.now.read.items c.in-Read.object (Some c.in-Read.version)) None c.turn-before.new.self
    (c.turn-before.ensures.read ∙ ap (λ t. slice_set t c.in-Read.object (Some c.in-Read.version)) kept)
    (c.turn-before.ensures.tried ∙ c.turn_try-in-Read.ensures.tried)
    (holds_reads_after_read es n c.in-Read.object c.in-Read.version c.args.self.now.read.items at (omega (arith, fits, c.args.self.now.read.ok.0)) c.requires.notes.reads)
    (holds_no_try es n (Read c.in-Read.object c.in-Read.version) at (λ o is. cc))

pub returns-else-is_noted-clause-notes : goal.returns-else-is_noted-clause-notes
returns-else-is_noted-clause-notes c =
    let es : List Event = c.args.events.now in
    let n = c.args.place in
    let at = slice_get_from_get_or es n _ _ c.requires.place c.in-Read.is in
    let kept = ap (λ t. t.items) c.turn_try-in-Read.ensures.read in
    let fits = c.requires.fits n c.in-Read.object (Read c.in-Read.object c.in-Read.version) at refl in
    notes_from_parts es (n + 1) (slice_set c.args.self.now.read.items c.in-Read.object (Some c.in-Read.version)) None c.turn-before.new.self
    (c.turn-before.ensures.read ∙ ap (λ t. slice_set t c.in-Read.object (Some c.in-Read.version)) kept)
    (c.turn-before.ensures.tried ∙ c.turn_try-in-Read.ensures.tried)
    (holds_reads_after_read es n c.in-Read.object c.in-Read.version c.args.self.now.read.items at (omega (arith, fits, c.args.self.now.read.ok.0)) c.requires.notes.reads)
    (holds_no_try es n (Read c.in-Read.object c.in-Read.version) at (λ o is. cc))

pub returns-then-is_noted-clause-repeat : goal.returns-then-is_noted-clause-repeat
returns-then-is_noted-clause-repeat c =
    let es : List Event = c.args.events.now in
    let n = c.args.place in
    let at = slice_get_from_get_or es n _ _ c.requires.place c.in-Read.is in
    let kept = ap (λ t. t.items) c.turn_try-in-Read.ensures.read in
    reads_again_if_noted es n c.in-Read.object c.in-Read.version c.args.self.now.read.items at c.requires.notes.reads
    (ap (λ t. version_noted t c.in-Read.object) (sym kept) ∙ (sym c.turn-before.ensures.value ∙ c.is_noted.ensures.set c.if-is_noted.true))

pub returns-else-is_noted-clause-repeat : goal.returns-else-is_noted-clause-repeat
returns-else-is_noted-clause-repeat c =
    let es : List Event = c.args.events.now in
    let n = c.args.place in
    let at = slice_get_from_get_or es n _ _ c.requires.place c.in-Read.is in
    let kept = ap (λ t. t.items) c.turn_try-in-Read.ensures.read in
    read_repeats_only_noted es n c.in-Read.object c.in-Read.version c.args.self.now.read.items at c.requires.notes.reads
    (λ is. c.is_noted.ensures.clear c.if-is_noted.false (c.turn-before.ensures.value ∙ (ap (λ t. version_noted t c.in-Read.object) kept ∙ is)))

pub returns-in-Write-clause-notes : goal.returns-in-Write-clause-notes
returns-in-Write-clause-notes c =
    let es : List Event = c.args.events.now in
    let n = c.args.place in
    let at = slice_get_from_get_or es n _ _ c.requires.place c.in-Write.is in
    let kept = ap (λ t. t.items) c.turn_try-in-Write.ensures.read in
    let fits = c.requires.fits n c.in-Write.object (Write c.in-Write.object c.in-Write.version c.in-Write.readers) at refl in
    notes_from_parts es (n + 1) (slice_set c.args.self.now.read.items c.in-Write.object None) None c.turn.new.self
    (c.turn.ensures.read ∙ ap (λ t. slice_set t c.in-Write.object None) kept) (c.turn.ensures.tried ∙ c.turn_try-in-Write.ensures.tried)
    (holds_reads_after_write es n c.in-Write.object c.in-Write.version c.in-Write.readers c.args.self.now.read.items at
    (omega (arith, fits, c.args.self.now.read.ok.0)) c.requires.notes.reads)
    (holds_no_try es n (Write c.in-Write.object c.in-Write.version c.in-Write.readers) at (λ o is. cc))

pub returns-in-Write-clause-repeat : goal.returns-in-Write-clause-repeat
returns-in-Write-clause-repeat c =
    let es : List Event = c.args.events.now in
    let n = c.args.place in
    let at = slice_get_from_get_or es n _ _ c.requires.place c.in-Write.is in
    other_repeats_nothing es n (Write c.in-Write.object c.in-Write.version c.in-Write.readers) at (λ o v is. cc) (λ o is. cc)

pub returns-then-was_tried-clause-notes : goal.returns-then-was_tried-clause-notes
returns-then-was_tried-clause-notes c =
    let es : List Event = c.args.events.now in
    let n = c.args.place in
    let at = slice_get_from_get_or es n _ _ c.requires.place c.in-Try.is in
    notes_from_parts es (n + 1) c.args.self.now.read.items (Some c.in-Try.object) c.turn_try-tried.new.self
    (ap (λ t. t.items) c.turn_try-tried.ensures.read) c.turn_try-tried.ensures.tried
    (holds_reads_other_event es n c.args.self.now.read.items (Try c.in-Try.object) at (λ o is. let bad : None ≡ Some o = is in cc) c.requires.notes.reads)
    (holds_try_after_try es n c.in-Try.object at)

pub returns-else-was_tried-clause-notes : goal.returns-else-was_tried-clause-notes
returns-else-was_tried-clause-notes c =
    let es : List Event = c.args.events.now in
    let n = c.args.place in
    let at = slice_get_from_get_or es n _ _ c.requires.place c.in-Try.is in
    notes_from_parts es (n + 1) c.args.self.now.read.items (Some c.in-Try.object) c.turn_try-tried.new.self
    (ap (λ t. t.items) c.turn_try-tried.ensures.read) c.turn_try-tried.ensures.tried
    (holds_reads_other_event es n c.args.self.now.read.items (Try c.in-Try.object) at (λ o is. let bad : None ≡ Some o = is in cc) c.requires.notes.reads)
    (holds_try_after_try es n c.in-Try.object at)

pub returns-then-was_tried-clause-repeat : goal.returns-then-was_tried-clause-repeat
returns-then-was_tried-clause-repeat c =
    let es : List Event = c.args.events.now in
    let n = c.args.place in
    let at = slice_get_from_get_or es n _ _ c.requires.place c.in-Try.is in
    tries_again_if_noted es n c.in-Try.object c.args.self.now.tried at c.requires.notes.tries
    (sym c.turn_try-tried.ensures.value ∙ c.was_tried.ensures.set c.if-was_tried.true)

pub returns-else-was_tried-clause-repeat : goal.returns-else-was_tried-clause-repeat
returns-else-was_tried-clause-repeat c =
    let es : List Event = c.args.events.now in
    let n = c.args.place in
    let at = slice_get_from_get_or es n _ _ c.requires.place c.in-Try.is in
    try_repeats_only_noted es n c.in-Try.object c.args.self.now.tried at c.requires.notes.tries
    (λ is. c.was_tried.ensures.clear c.if-was_tried.false (c.turn_try-tried.ensures.value ∙ is))
