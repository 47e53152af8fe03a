use Rattle.std.proofs.Common.{◌<◌, ◌∙◌, List, length, refl, sym, ap, arith}
use Rattle.std.specs.Prelude.{slice_get}
use Rattle.ir_log.specs.declared.event.Event.{Event}
use Rattle.ir_past.proofs.Open.{slice_get_from_get_or}
use Rattle.ir_past.proofs.ReadTables.{has_reads_other_event, ok_read_has_reads}
use Rattle.ir_past.proofs.reads.note_event.Goals as goal

pub note-requires : goal.note-requires
note-requires c =
    let n = c.args.here.event in
    let within : n < length c.events_of-events.result.now = omega (arith, c.requires.event, c.events_of-events.ensures.count) in
    let at = slice_get_from_get_or c.events_of-events.result.now n _ _ within c.in-Read.is in
    omega (arith, c.events_of-events.ensures.fits n c.in-Read.object _ at refl, c.requires.has.objects)

pub returns-in-Read : goal.returns-in-Read
returns-in-Read c =
    let n = c.args.here.event in
    let within : n < length c.events_of-events.result.now = omega (arith, c.requires.event, c.events_of-events.ensures.count) in
    let at = slice_get_from_get_or c.events_of-events.result.now n _ _ within c.in-Read.is in
    ok_read_has_reads c.note.result c.args.trace.now c.args.here.thread n c.in-Read.object c.in-Read.version c.args.reads.now c.note.new.self
    c.args.here (ap (λ (es : List Event). slice_get es n) (sym c.events_of-events.ensures.events) ∙ at) refl refl c.requires.has
    c.note.ensures.objects c.note.ensures.noted

pub returns-in-Answer : goal.returns-in-Answer
returns-in-Answer c =
    let n = c.args.here.event in
    let within : n < length c.events_of-events.result.now = omega (arith, c.requires.event, c.events_of-events.ensures.count) in
    let at = slice_get_from_get_or c.events_of-events.result.now n _ _ within c.in-Answer.is in
    has_reads_other_event c.args.trace.now c.args.here.thread n c.args.reads.now _
    (ap (λ (es : List Event). slice_get es n) (sym c.events_of-events.ensures.events) ∙ at) (λ o v e. cc) c.requires.has

pub returns-in-Write : goal.returns-in-Write
returns-in-Write c =
    let n = c.args.here.event in
    let within : n < length c.events_of-events.result.now = omega (arith, c.requires.event, c.events_of-events.ensures.count) in
    let at = slice_get_from_get_or c.events_of-events.result.now n _ _ within c.in-Write.is in
    has_reads_other_event c.args.trace.now c.args.here.thread n c.args.reads.now _
    (ap (λ (es : List Event). slice_get es n) (sym c.events_of-events.ensures.events) ∙ at) (λ o v e. cc) c.requires.has

pub returns-in-Try : goal.returns-in-Try
returns-in-Try c =
    let n = c.args.here.event in
    let within : n < length c.events_of-events.result.now = omega (arith, c.requires.event, c.events_of-events.ensures.count) in
    let at = slice_get_from_get_or c.events_of-events.result.now n _ _ within c.in-Try.is in
    has_reads_other_event c.args.trace.now c.args.here.thread n c.args.reads.now _
    (ap (λ (es : List Event). slice_get es n) (sym c.events_of-events.ensures.events) ∙ at) (λ o v e. cc) c.requires.has
