use Rattle.std.proofs.Common.{refl}
use Rattle.std.proofs.lemmas.Option.{slice_get-get_or}
use Rattle.ir_cut.proofs.Closed.{closed_by_next_outside, closed_by_whole_log, not_closed_by_need, first_needs_step, entry_index_has_event}
use Rattle.ir_cut.proofs.consistency.is_closed.Goals as goal

pub returns-then-places-i : goal.returns-then-places-i
returns-then-places-i c = closed_by_next_outside c.args.fitted.now c.requires.fitted c.args.positions.now c.entries-places.result.now c.args.t
    c.loop-i.i _ c.requires.thread c.entries-places.ensures c.loop-i-test.true refl c.if-places-i.true c.loop-i.invariant

pub returns-then-not-are_met : goal.returns-then-not-are_met
returns-then-not-are_met c = not_closed_by_need c.args.fitted.now c.requires.fitted c.args.positions.now c.entries-places.result.now
    c.log_of-events.result.now c.args.t c.loop-i.i _ _ c.are_met.result c.requires.thread c.entries-places.ensures
    c.log_of-events.ensures.value c.loop-i-test.true refl c.if-places-i.false
    (slice_get-get_or c.log_of-events.result.now c.loop-i.i _
    (entry_index_has_event c.args.fitted.now c.entries-places.result.now c.log_of-events.result.now c.args.t c.loop-i.i c.entries-places.ensures
    c.log_of-events.ensures.size c.loop-i-test.true)) c.are_met.ensures c.if-not-are_met.true

pub loop-i-preserved : goal.loop-i-preserved
loop-i-preserved c = first_needs_step c.args.fitted.now c.args.positions.now c.log_of-events.result.now c.args.t c.loop-i.i _ c.are_met.result
    c.log_of-events.ensures.value
    (slice_get-get_or c.log_of-events.result.now c.loop-i.i _
    (entry_index_has_event c.args.fitted.now c.entries-places.result.now c.log_of-events.result.now c.args.t c.loop-i.i c.entries-places.ensures
    c.log_of-events.ensures.size c.loop-i-test.true)) c.are_met.ensures c.if-not-are_met.false c.loop-i.invariant

pub returns : goal.returns
returns c = closed_by_whole_log c.args.fitted.now c.requires.fitted c.args.positions.now c.entries-places.result.now c.args.t c.loop-i.i
    c.entries-places.ensures c.loop-i-test.false c.loop-i.invariant
