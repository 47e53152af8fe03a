use Rattle.std.proofs.Common.{sym, subst, arith}
use Rattle.std.proofs.lemmas.Option.{slice_get-get_or}
use Rattle.ir_holds.proofs.Defaults.{no_box, no_span}
use Rattle.ir_holds.proofs.Noted.{AreStopsTo, stops_of_no_boxes, stops_to_next_box, stops_of_all_boxes}
use Rattle.ir_holds.proofs.stops.stops_of.Goals as goal

pub loop-number-init : goal.loop-number-init
loop-number-init c = subst (AreStopsTo c.args.boxes.now c.args.spans.now 0) (sym c.new-stops.ensures.items) (stops_of_no_boxes c.args.boxes.now c.args.spans.now)

pub loop-number-preserved : goal.loop-number-preserved
loop-number-preserved c =
    let boxes = c.args.boxes.now in
    let spans = c.args.spans.now in
    let n = c.loop-number.number in
    let below = c.loop-number-test.true in
    let size = c.requires in
    stops_to_next_box boxes spans n c.loop-number.stops.items c.push.new.self.items c.push-in-loop-number.new.self.items _ _ c.loop-number.invariant
    (slice_get-get_or boxes n no_box below) (slice_get-get_or spans n no_span (omega (arith, below, size)))
    c.in_ok-push.ensures.items c.in_ok-push-2.ensures.items

pub returns : goal.returns
returns c = stops_of_all_boxes c.args.boxes.now c.args.spans.now c.loop-number.number c.loop-number.stops.items c.loop-number.invariant c.loop-number-test.false
