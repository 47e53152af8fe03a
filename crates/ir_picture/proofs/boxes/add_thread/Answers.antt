use Rattle.std.proofs.Common.{◌+◌, ◌∙◌, List, sym, subst, arith, rules}
use Rattle.ir_log.specs.declared.event.Event.{Event}
use Rattle.ir_trace.specs.Recorded.{recorded_thread}
use Rattle.ir_picture.specs.Boxing.{Notes, IsRepeat, IsFold}
use Rattle.ir_picture.proofs.Noting.{repeat_before_next, fold_is_alike}
use Rattle.ir_picture.proofs.Boxed.{boxed_before_thread}
use Rattle.ir_picture.proofs.boxes.add_thread.Goals as goal

pub add_event-requires-clause-folds : goal.add_event-requires-clause-folds
add_event-requires-clause-folds c =
    let es : List Event = (recorded_thread c.args.trace.now c.args.thread).events in
    let now : IsRepeat es c.loop-event.event c.note-repeat.result =
    subst (λ (x : List Event). IsRepeat x c.loop-event.event c.note-repeat.result) c.events_of-events.ensures.events c.note-repeat.ensures.repeat in
    subst (IsFold es c.loop-event.event) (sym c.are_alike-folds.ensures)
    (fold_is_alike es c.loop-event.event c.loop-event.before c.note-repeat.result c.loop-event.invariant.before now)

pub loop-event-preserved : goal.loop-event-preserved
loop-event-preserved c =
    let es : List Event = (recorded_thread c.args.trace.now c.args.thread).events in
    record {
      objects = c.note-repeat.ensures.objects ∙ c.loop-event.invariant.objects;
      notes = subst (λ (x : List Event). Notes x (c.loop-event.event + 1) c.note-repeat.new.self) c.events_of-events.ensures.events
          c.note-repeat.ensures.notes;
      before = repeat_before_next es c.loop-event.event c.note-repeat.result
          (subst (λ (x : List Event). IsRepeat x c.loop-event.event c.note-repeat.result) c.events_of-events.ensures.events c.note-repeat.ensures.repeat);
      boxed = search rules;
    }

pub returns : goal.returns
returns c = boxed_before_thread c.args.trace.now c.args.thread c.loop-event.event c.loop-event.boxes.items
    (omega (arith, c.loop-event-test.false, c.loop-event.auto.event-end, c.events_of-events.ensures.count, c.events_of-events.ensures.few))
    (omega (arith, c.loop-event.auto.event-end, c.events_of-events.ensures.few)) c.loop-event.invariant.boxed
