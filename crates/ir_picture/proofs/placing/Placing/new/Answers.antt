use Rattle.std.proofs.Common.{◌≡◌, ◌∙◌, List, length, sym, ap, subst, arith}
use Rattle.ir_trace.proofs.CallerLemmas.{recorded_threads_within}
use Rattle.ir_picture.specs.Boxes.{AreBoxes}
use Rattle.ir_picture.specs.Boxing.{AreBoxesApart}
use Rattle.ir_picture.specs.Placing.{IsPlacingCut, version_in, events_of_all}
use Rattle.ir_picture.specs.declared.event_box.EventBox.{EventBox}
use Rattle.ir_picture.proofs.Cuts.{boxes_are_apart}
use Rattle.ir_picture.proofs.Circles.{being_placed_at_start, length-events_of_all}
use Rattle.ir_picture.proofs.placing.Placing.new.Goals as goal

pub lanes_of-requires : goal.lanes_of-requires
lanes_of-requires c = subst AreBoxesApart (sym c.deref.ensures.value) (boxes_are_apart c.args.trace.now c.in_ok-events.events.items c.in_ok-events.ensures.boxes)

pub returns : goal.returns
returns c =
    let r = c.args.trace.now in
    let events : events_of_all c.in_ok-boxes.boxes.items ≡ c.in_ok-events.events.items = c.in_ok-boxes.ensures ∙ c.deref-2.ensures.value in
    let same : c.deref.result.now ≡ events_of_all c.in_ok-boxes.boxes.items = c.deref.ensures.value ∙ sym events in
    record {
      recorded = c.in_ok-events.ensures.recorded;
      objects = c.in_ok-table.ensures.objects ∙ c.objects.ensures.value;
      are = being_placed_at_start r c.in_ok-boxes.boxes.items c.in_ok-lanes.lanes.items (version_in c.in_ok-table.table)
          (subst (AreBoxes r) (sym events) c.in_ok-events.ensures.boxes) (c.in_ok-lanes.ensures.lanes ∙ c.thread_count.ensures)
          (λ t l is. ((c.in_ok-lanes.ensures.at t l is).0, subst (λ (x : List EventBox). IsPlacingCut x t 0 l.next) same (c.in_ok-lanes.ensures.at t l is).1))
          c.in_ok-table.ensures.none
          (omega (arith, length-events_of_all c.in_ok-boxes.boxes.items, ap (λ (x : List EventBox). length x) events, c.in_ok-events.ensures.few))
          (omega (arith, recorded_threads_within r c.in_ok-events.ensures.recorded));
    }
