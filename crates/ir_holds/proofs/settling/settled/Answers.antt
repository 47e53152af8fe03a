use Rattle.std.proofs.Common.{◌≡◌, ◌∙◌, List, length, refl, sym, subst}
use Rattle.std.specs.Prelude.{IfSome, IfNone}
use Rattle.ir_picture.specs.Progress.{AreBoxesOf}
use Rattle.ir_picture.specs.declared.event_box.EventBox.{EventBox}
use Rattle.ir_picture.specs.declared.placed_box.PlacedBox.{PlacedBox}
use Rattle.ir_holds.specs.Schedules.{EachIsHeld, IsPacing, AreNear, ArePut}
use Rattle.ir_holds.proofs.Settled.{all_rest_to_depth_zero, rest_to_next_round, put_boxes_are_near, same_events_are_boxes, same_events_as_many, held_if_all_rest}
use Rattle.ir_holds.proofs.settling.settled.Goals as goal

pub loop-init : goal.loop-init
loop-init c = record {
  events = refl;
  rows = refl;
  near = c.requires.near;
  rest = λ at order. all_rest_to_depth_zero c.args.trace.now c.args.first.items c.args.spans.now at;
}

pub put_once-requires-clause-size : goal.put_once-requires-clause-size
put_once-requires-clause-size c = subst (λ (bs : List PlacedBox). length c.args.spans.now ≡ length bs) (sym c.deref.ensures.value)
    (same_events_as_many c.args.first.items c.loop.boxes.items (length c.args.spans.now) c.loop.invariant.events c.requires.size)

pub put_once-requires-clause-boxes : goal.put_once-requires-clause-boxes
put_once-requires-clause-boxes c = subst (AreBoxesOf c.args.trace.now) (sym c.deref.ensures.value)
    (same_events_are_boxes c.args.trace.now c.args.first.items c.loop.boxes.items c.loop.invariant.events c.requires.boxes)

pub put_once-requires-clause-near : goal.put_once-requires-clause-near
put_once-requires-clause-near c = subst (λ (bs : List PlacedBox). AreNear bs c.args.spans.now) (sym c.deref.ensures.value) c.loop.invariant.near

pub loop-preserved : goal.loop-preserved
loop-preserved c =
    let r = c.args.trace.now in
    let spans = c.args.spans.now in
    let first : List PlacedBox = c.args.first.items in
    let before : List PlacedBox = c.loop.boxes.items in
    let put : ArePut r before spans c.in-Some.put.items = subst (λ (bs : List PlacedBox). ArePut r bs spans c.in-Some.put.items) c.deref.ensures.value
    (subst (λ x. IfSome x (λ v. ArePut r c.deref.result.now spans v.items)) c.in-Some.is c.in_ok-put_once.ensures.put) in
    record {
      events = put.events ∙ c.loop.invariant.events;
      rows = put.rows ∙ c.loop.invariant.rows;
      near = put_boxes_are_near r before c.in-Some.put.items spans c.loop.invariant.near put;
      rest = λ at order. rest_to_next_round r before c.in-Some.put.items spans at c.loop.counter
          (same_events_are_boxes r first before c.loop.invariant.events c.requires.boxes)
          (same_events_as_many first before (length spans) c.loop.invariant.events c.requires.size)
          (subst (λ (es : List EventBox). IsPacing r es spans at) (sym c.loop.invariant.events) order) c.loop.invariant.near put
          (c.loop.invariant.rest at order);
    }

pub returns-in-None : goal.returns-in-None
returns-in-None c = record {
  events = c.loop.invariant.events;
  rows = c.loop.invariant.rows;
  near = c.loop.invariant.near;
  held = subst (λ (bs : List PlacedBox). EachIsHeld c.args.trace.now bs c.args.spans.now) c.deref.ensures.value
      (subst (λ x. IfNone x (EachIsHeld c.args.trace.now c.deref.result.now c.args.spans.now)) c.in-None.is c.in_ok-put_once.ensures.held);
}

pub returns : goal.returns
returns c = record {
  events = c.loop.invariant.events;
  rows = c.loop.invariant.rows;
  near = c.loop.invariant.near;
  held =
      (let r = c.args.trace.now in
      let end = c.loop-test.false in
      held_if_all_rest r c.loop.boxes.items c.args.spans.now c.requires.pacing.0 c.loop.counter end
      (c.loop.invariant.rest c.requires.pacing.0 c.requires.pacing.1));
}
