use Rattle.std.proofs.Common.{◌≡◌, ◌∙◌, ℕ, List, Some, sym, subst, arith}
use Rattle.std.specs.List.{slice_get}
use Rattle.ir_picture.specs.declared.event_box.EventBox.{EventBox}
use Rattle.ir_picture.specs.declared.placed_box.Point.{Point}
use Rattle.ir_picture.specs.declared.placed_box.PlacedBox.{PlacedBox}
use Rattle.ir_picture.proofs.CallerLemmas.{slice_get_of_map}
use Rattle.ir_holds.specs.Spans.{AreRows}
use Rattle.ir_holds.specs.Held.{IsHeldEnd}
use Rattle.ir_holds.specs.Schedules.{HasPacing}
use Rattle.ir_holds.proofs.Paced.{paced, schedule_is_paced, thread_steps_bound, box_steps_bound}
use Rattle.ir_holds.proofs.holding.held_boxes.Goals as goal

pub boxes_at-requires-clause-steps : goal.boxes_at-requires-clause-steps
boxes_at-requires-clause-steps c =
    box_steps_bound c.args.trace.now c.args.events.now c.args.spans.now c.requires.few c.requires.schedule.0 c.requires.schedule.1

pub settled-requires-clause-boxes : goal.settled-requires-clause-boxes
settled-requires-clause-boxes c = λ k b at. c.requires.boxes k b.events
    (subst (λ (es : List EventBox). slice_get es k ≡ Some b.events) c.in_ok-first.ensures.events
    (slice_get_of_map (λ (x : PlacedBox). x.events) c.in_ok-first.first.items k b at))

pub settled-requires-clause-pacing : goal.settled-requires-clause-pacing
settled-requires-clause-pacing c = subst (λ (es : List EventBox). HasPacing c.args.trace.now es c.args.spans.now) (sym c.in_ok-first.ensures.events)
    (paced c.args.trace.now c.requires.schedule.0, schedule_is_paced c.args.trace.now c.args.events.now c.args.spans.now c.requires.schedule.0 c.requires.few c.requires.schedule.1)

pub ends_at-requires-clause-few : goal.ends_at-requires-clause-few
ends_at-requires-clause-few c = λ t within. let few = thread_steps_bound c.args.trace.now c.requires.few t within in omega (arith, few)

pub returns : goal.returns
returns c =
    let boxes : List PlacedBox = c.in_ok-boxes.boxes.items in
    let spans = c.args.spans.now in
    record {
      same = c.in_ok-boxes.ensures.events ∙ c.in_ok-first.ensures.events;
      levels = subst (AreRows spans) (sym (c.in_ok-boxes.ensures.rows ∙ c.in_ok-first.ensures.rows ∙ c.deref.ensures.value)) c.in_ok-rows.ensures;
      places = record {
        placed = c.in_ok-boxes.ensures.held;
        threads = c.in_ok-ends.ensures.threads;
        last = subst (λ (bs : List PlacedBox). (t : ℕ) (p : Point) → slice_get c.in_ok-ends.ends.items t ≡ Some p → IsHeldEnd c.args.trace.now bs spans t p)
            c.deref-3.ensures.value c.in_ok-ends.ensures.each;
      };
    }
