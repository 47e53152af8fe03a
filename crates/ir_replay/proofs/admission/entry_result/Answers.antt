use Rattle.std.proofs.Common.{◌≡◌, ℕ, subst}
use Rattle.std.specs.Prelude.{slice_get, Some}
use Rattle.ir_log.specs.Asked.{SuitsEvent}
use Rattle.ir_log.specs.declared.event.Event.{Event}
use Rattle.ir_thread.specs.declared.ask.Ask.TheVariants.{Enter}
use Rattle.ir_trace.specs.Recorded.{Recorded, recorded_thread}
use Rattle.ir_flat.specs.Flat.{cell_of}
use Rattle.ir_fit.proofs.CallerLemmas.{true_test_cell_open, false_test_cell_shut}
use Rattle.ir_weave.proofs.CallerLemmas.{open_entry_logs_zero, shut_entry_logs_none, unsuited_entry_logs_none, entered_index_below, entered_is_its_cell}
use Rattle.ir_replay.proofs.admission.entry_result.Goals as goal

pub bounds-objects-object : goal.bounds-objects-object
bounds-objects-object c = entered_index_below c.args.flat.now c.args.t c.args.object c.args.access c.objects.result.now
    c.events_of-before.ensures.flat c.requires.thread c.requires.asked c.objects.ensures.value

pub returns-in-Err : goal.returns-in-Err
returns-in-Err c = unsuited_entry_logs_none c.args.fitted.now.recorded c.args.flat.now c.args.t c.args.object c.args.access c.requires.asked
    c.requires.steps
    (subst (λ (z : Recorded × ℕ). (e : Event) → slice_get (recorded_thread z.0 c.args.t).events z.1 ≡ Some e
    → SuitsEvent (Enter c.args.object c.args.access) e → ⊥) (λ i. (c.trace.ensures.value i, c.events_of-before.ensures.value i))
    c.in-Err.ensures.disagrees)

pub returns-then-is_open : goal.returns-then-is_open
returns-then-is_open c = open_entry_logs_zero c.args.fitted.now.recorded c.args.flat.now c.args.t c.args.object c.args.access c.in-Ok.event
    c.events_of-before.ensures.flat c.requires.thread c.requires.asked c.requires.steps
    (subst (λ (z : Recorded × ℕ). slice_get (recorded_thread z.0 c.args.t).events z.1 ≡ Some c.in-Ok.event)
    (λ i. (c.trace.ensures.value i, c.events_of-before.ensures.value i)) c.in-Ok.ensures.next) c.in-Ok.ensures.suits
    (true_test_cell_open c.is_open.result c.index-objects-object.result (cell_of c.args.flat.now c.args.object) c.in-Ok.event
    (entered_is_its_cell c.args.flat.now c.args.t c.args.object c.args.access c.objects.result.now c.index-objects-object.result
    c.events_of-before.ensures.flat c.requires.thread c.requires.asked c.objects.ensures.value c.index-objects-object.is)
    c.is_open.ensures c.if-is_open.true)

pub returns-else-is_open : goal.returns-else-is_open
returns-else-is_open c = shut_entry_logs_none c.args.fitted.now.recorded c.args.flat.now c.args.t c.args.object c.args.access c.in-Ok.event
    c.events_of-before.ensures.flat c.requires.thread c.requires.asked c.requires.steps
    (subst (λ (z : Recorded × ℕ). slice_get (recorded_thread z.0 c.args.t).events z.1 ≡ Some c.in-Ok.event)
    (λ i. (c.trace.ensures.value i, c.events_of-before.ensures.value i)) c.in-Ok.ensures.next) c.in-Ok.ensures.suits
    (false_test_cell_shut c.is_open.result c.index-objects-object.result (cell_of c.args.flat.now c.args.object) c.in-Ok.event
    (entered_is_its_cell c.args.flat.now c.args.t c.args.object c.args.access c.objects.result.now c.index-objects-object.result
    c.events_of-before.ensures.flat c.requires.thread c.requires.asked c.objects.ensures.value c.index-objects-object.is)
    c.is_open.ensures c.if-is_open.false)
