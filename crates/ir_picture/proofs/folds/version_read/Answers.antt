use Rattle.std.proofs.Common.{◌∙◌, sym}
use Rattle.ir_picture.proofs.Folded.{version_read_by_next, version_read_skips_next, version_read_past_end}
use Rattle.ir_picture.proofs.folds.version_read.Goals as goal

pub returns-in-Some : goal.returns-in-Some
returns-in-Some c = sym (sym c.loop-event.invariant
    ∙ version_read_by_next c.args.object c.loop-event.event-index c.in-Some.version c.args.events.now _ c.loop-event-test.true
    (sym c.read_by.ensures ∙ c.in-Some.is))

pub loop-event-preserved : goal.loop-event-preserved
loop-event-preserved c = sym (version_read_skips_next c.args.object c.loop-event.event-index c.args.events.now _ c.loop-event-test.true
    (sym c.read_by.ensures ∙ c.in_default.is))
    ∙ c.loop-event.invariant

pub returns : goal.returns
returns c = sym (sym c.loop-event.invariant ∙ version_read_past_end c.args.object c.loop-event.event-index c.args.events.now c.loop-event-test.false)
