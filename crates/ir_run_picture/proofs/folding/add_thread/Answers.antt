use Rattle.std.proofs.Common.{◌+◌, ◌∙◌, List, length, ap, sym, subst, arith, rules}
use Rattle.ir_log.specs.declared.event.Event.{Event}
use Rattle.ir_trace.specs.Recorded.{Recorded, recorded_thread}
use Rattle.ir_picture.specs.Boxing.{Notes, IsRepeat, IsFold}
use Rattle.ir_picture.proofs.CallerLemmas.{repeat_before_next, fold_is_alike}
use Rattle.ir_run_picture.proofs.Behind.{below_length_is_inside}
use Rattle.ir_run_picture.proofs.Boxed.{run_boxed_next_thread}
use Rattle.ir_run_picture.proofs.folding.add_thread.Goals as goal

pub folds_in-folds-requires-clause-inside : goal.folds_in-folds-requires-clause-inside
folds_in-folds-requires-clause-inside c =
    let below = c.loop-event-test.true in
    let end = c.loop-event.auto.event-end in
    let count = c.events_of-events.ensures.count in
    let same = ap (λ (r : Recorded). length (recorded_thread r c.args.thread).events) c.trace.ensures.value in
    below_length_is_inside c.args.fitted.now c.known.ensures.run c.args.thread c.loop-event.event (omega (arith, below, end, count, same))

pub folds_in-folds-requires-clause-folds : goal.folds_in-folds-requires-clause-folds
folds_in-folds-requires-clause-folds c =
    let es : List Event = (recorded_thread c.args.fitted.now.recorded c.args.thread).events in
    let events = c.events_of-events.ensures.events ∙ ap (λ (r : Recorded). (recorded_thread r c.args.thread).events) c.trace.ensures.value in
    let now : IsRepeat es c.loop-event.event c.note-repeat.result =
    subst (λ (x : List Event). IsRepeat x c.loop-event.event c.note-repeat.result) events c.note-repeat.ensures.repeat in
    subst (IsFold es c.loop-event.event) (sym c.are_alike.ensures)
    (fold_is_alike es c.loop-event.event c.loop-event.before c.note-repeat.result c.loop-event.invariant.before now)

pub loop-event-preserved : goal.loop-event-preserved
loop-event-preserved c =
    let es : List Event = (recorded_thread c.args.fitted.now.recorded c.args.thread).events in
    let events = c.events_of-events.ensures.events ∙ ap (λ (r : Recorded). (recorded_thread r c.args.thread).events) c.trace.ensures.value in
    record {
      objects = c.note-repeat.ensures.objects ∙ c.loop-event.invariant.objects;
      notes = subst (λ (x : List Event). Notes x (c.loop-event.event + 1) c.note-repeat.new.self) events c.note-repeat.ensures.notes;
      before = repeat_before_next es c.loop-event.event c.note-repeat.result
          (subst (λ (x : List Event). IsRepeat x c.loop-event.event c.note-repeat.result) events c.note-repeat.ensures.repeat);
      boxed = search rules;
    }

pub returns : goal.returns
returns c =
    let past = c.loop-event-test.false in
    let end = c.loop-event.auto.event-end in
    let count = c.events_of-events.ensures.count in
    let few = c.events_of-events.ensures.few in
    let same = ap (λ (r : Recorded). length (recorded_thread r c.args.thread).events) c.trace.ensures.value in
    run_boxed_next_thread c.args.fitted.now c.args.thread c.loop-event.event c.loop-event.boxes.items (omega (arith, past, end, count, few, same))
    c.loop-event.invariant.boxed
