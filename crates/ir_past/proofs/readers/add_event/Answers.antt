use Rattle.std.proofs.Common.{◌+◌, ◌<◌, ◌∙◌, List, length, refl, sym, ap, subst, arith}
use Rattle.std.specs.Prelude.{slice_get}
use Rattle.ir_log.specs.declared.event.Event.{Event}
use Rattle.ir_past.specs.Progress.{ReadBefore}
use Rattle.ir_past.specs.declared.place.Place.{Place}
use Rattle.ir_past.proofs.Open.{slice_get_from_get_or}
use Rattle.ir_past.proofs.Reading.{read_before_no_read, read_before_with_read}
use Rattle.ir_past.proofs.readers.add_event.Goals as goal

pub returns-in_ok-push : goal.returns-in_ok-push
returns-in_ok-push c =
    let n = c.args.here.event in
    let within : n < length c.events_of-events.result.now = omega (arith, c.requires.event, c.events_of-events.ensures.count) in
    let at = slice_get_from_get_or c.events_of-events.result.now n _ _ within (c.is_read.ensures.set c.if-is_read.true) in
    subst (λ (places : List Place). ReadBefore c.args.trace.now c.args.object c.args.version c.args.here.thread (n + 1) places)
    (sym c.in_ok-push.ensures.items)
    (read_before_with_read c.args.trace.now c.args.object c.args.version c.args.here c.args.places.now.items
    (ap (λ (es : List Event). slice_get es n) (sym c.events_of-events.ensures.events) ∙ at) c.requires.before)

pub returns-else-is_read : goal.returns-else-is_read
returns-else-is_read c =
    let n = c.args.here.event in
    let within : n < length c.events_of-events.result.now = omega (arith, c.requires.event, c.events_of-events.ensures.count) in
    read_before_no_read c.args.trace.now c.args.object c.args.version c.args.here.thread n c.args.places.now.items _
    (ap (λ (es : List Event). slice_get es n) (sym c.events_of-events.ensures.events)
    ∙ slice_get_from_get_or c.events_of-events.result.now n _ _ within refl)
    (c.is_read.ensures.clear c.if-is_read.false) c.requires.before
