use Rattle.std.proofs.Common.{◌≡◌, ◌<◌, ◌∙◌, ℕ, List, length, get_or, ap, sym, subst}
use Rattle.std.proofs.lemmas.List.{get_or_default}
use Rattle.std.specs.Prelude.{slice_get, Some}
use Rattle.ir_log.specs.Asked.{SuitsEvent}
use Rattle.ir_log.specs.declared.event.Event.{Event}
use Rattle.ir_thread.specs.declared.ask.Ask.TheVariants.{Try}
use Rattle.ir_trace.specs.Recorded.{Recorded, recorded_thread}
use Rattle.ir_thread.specs.State.{ask_of}
use Rattle.ir_object.specs.Cell.{Cell}
use Rattle.ir_object.specs.Empty.{empty}
use Rattle.ir_flat.specs.Flat.{Flat, IsFlat, thread_of, cell_of}
use Rattle.ir_flat.proofs.CallerLemmas.{tried_object_exists}
use Rattle.ir_fit.proofs.CallerLemmas.{true_test_cell_open, false_test_cell_shut, try_not_refused_got_in}
use Rattle.ir_weave.proofs.CallerLemmas.{refused_try_logs_zero, open_try_logs_one, shut_try_logs_none, unsuited_try_logs_none}
use Rattle.ir_replay.proofs.admission.try_result.Goals as goal

pub returns-in-Err : goal.returns-in-Err
returns-in-Err c = unsuited_try_logs_none c.args.fitted.now.recorded c.args.flat.now c.args.t c.args.object c.requires.asked c.requires.steps
    (subst (λ (z : Recorded × ℕ). (e : Event) → slice_get (recorded_thread z.0 c.args.t).events z.1 ≡ Some e → SuitsEvent (Try c.args.object) e → ⊥)
    (λ i. (c.trace.ensures.value i, c.events_of-before.ensures.value i)) c.in-Err.ensures.disagrees)

there : (s : Flat) (t o : ℕ) (xs : List Cell) → IsFlat s → t < length s.threads → ask_of s.code (thread_of s t) ≡ Try o → xs ≡ s.objects
    → o < length xs
there s t o xs flat l is same = subst (λ z. o < length z) (sym same) (tried_object_exists s t o flat l is)

found : (s : Flat) (t o : ℕ) (xs : List Cell) (x : Cell) → IsFlat s → t < length s.threads → ask_of s.code (thread_of s t) ≡ Try o
    → xs ≡ s.objects → get_or xs o x ≡ cell_of s o
found s t o xs x flat l is same = ap (λ z. get_or z o x) same ∙ get_or_default s.objects o x empty (tried_object_exists s t o flat l is)

pub bounds-objects-object : goal.bounds-objects-object
bounds-objects-object c = there c.args.flat.now c.args.t c.args.object c.objects.result.now c.events_of-before.ensures.flat
    c.requires.thread c.requires.asked c.objects.ensures.value

pub returns-in-Try : goal.returns-in-Try
returns-in-Try c = refused_try_logs_zero c.args.fitted.now.recorded c.args.flat.now c.args.t c.args.object c.in-Try.object c.requires.asked
    c.requires.steps
    (subst (λ (z : Recorded × ℕ × Event). slice_get (recorded_thread z.0 c.args.t).events z.1 ≡ Some z.2)
    (λ i. (c.trace.ensures.value i, c.events_of-before.ensures.value i, c.in-Try.is i)) c.in-Ok.ensures.next)
    (subst (λ e. SuitsEvent (Try c.args.object) e) c.in-Try.is c.in-Ok.ensures.suits)

pub returns-then-is_open : goal.returns-then-is_open
returns-then-is_open c = open_try_logs_one c.args.fitted.now.recorded c.args.flat.now c.args.t c.args.object c.in-Ok.event
    c.events_of-before.ensures.flat c.requires.thread c.requires.asked c.requires.steps
    (subst (λ (z : Recorded × ℕ). slice_get (recorded_thread z.0 c.args.t).events z.1 ≡ Some c.in-Ok.event)
    (λ i. (c.trace.ensures.value i, c.events_of-before.ensures.value i)) c.in-Ok.ensures.next) c.in-Ok.ensures.suits
    (true_test_cell_open c.is_open.result c.index-objects-object.result (cell_of c.args.flat.now c.args.object) c.in-Ok.event
    (c.index-objects-object.is ∙ found c.args.flat.now c.args.t c.args.object c.objects.result.now c.index-objects-object.result
    c.events_of-before.ensures.flat c.requires.thread c.requires.asked c.objects.ensures.value)
    c.is_open.ensures c.if-is_open.true)

pub returns-else-is_open : goal.returns-else-is_open
returns-else-is_open c = shut_try_logs_none c.args.fitted.now.recorded c.args.flat.now c.args.t c.args.object c.in-Ok.event
    c.events_of-before.ensures.flat c.requires.thread c.requires.asked c.requires.steps
    (subst (λ (z : Recorded × ℕ). slice_get (recorded_thread z.0 c.args.t).events z.1 ≡ Some c.in-Ok.event)
    (λ i. (c.trace.ensures.value i, c.events_of-before.ensures.value i)) c.in-Ok.ensures.next) c.in-Ok.ensures.suits
    (try_not_refused_got_in c.args.object c.in-Ok.event c.in-Ok.ensures.suits c.in_default.not-Try)
    (false_test_cell_shut c.is_open.result c.index-objects-object.result (cell_of c.args.flat.now c.args.object) c.in-Ok.event
    (c.index-objects-object.is ∙ found c.args.flat.now c.args.t c.args.object c.objects.result.now c.index-objects-object.result
    c.events_of-before.ensures.flat c.requires.thread c.requires.asked c.objects.ensures.value)
    c.is_open.ensures c.if-is_open.false)
