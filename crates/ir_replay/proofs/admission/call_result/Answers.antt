use Rattle.std.proofs.Common.{◌≡◌, ℕ, subst}
use Rattle.std.specs.Prelude.{slice_get, Some}
use Rattle.ir_log.specs.Asked.{SuitsEvent}
use Rattle.ir_log.specs.declared.event.Event.{Event}
use Rattle.ir_thread.specs.declared.ask.Ask.TheVariants.{Env}
use Rattle.ir_trace.specs.Recorded.{Recorded, recorded_thread}
use Rattle.ir_trace.specs.Bounds.{IsRecordedThread}
use Rattle.ir_weave.proofs.CallerLemmas.{suited_call_logs_next, unsuited_call_logs_none}
use Rattle.ir_replay.proofs.admission.call_result.Goals as goal

pub returns-in-Ok-Answer : goal.returns-in-Ok-Answer
returns-in-Ok-Answer c =
    let t = c.args.t in
    let next = subst (λ (z : Recorded × ℕ × Event). slice_get (recorded_thread z.0 t).events z.1 ≡ Some z.2)
    (λ i. (c.trace.ensures.value i, c.events_of-before.ensures.value i, c.in-Ok-Answer.field-0-is i)) c.in-Ok-Answer.ensures.next in
    let suits = subst (λ e. SuitsEvent (Env c.args.kind) e) c.in-Ok-Answer.field-0-is c.in-Ok-Answer.ensures.suits in
    let within = subst (λ (r : Recorded). IsRecordedThread r.profile r.objects (recorded_thread r t)) c.trace.ensures.value
    c.next_event.ensures.within in
    suited_call_logs_next c.args.fitted.now.recorded c.args.flat.now t c.in-Ok-Answer.result c.args.kind c.in-Ok-Answer.field-0-0 within
    c.requires.asked c.requires.steps next suits

pub returns-in-Err : goal.returns-in-Err
returns-in-Err c =
    unsuited_call_logs_none c.args.fitted.now.recorded c.args.flat.now c.args.t c.args.kind c.requires.asked c.requires.steps
    (subst (λ (z : Recorded × ℕ). (e : Event) → slice_get (recorded_thread z.0 c.args.t).events z.1 ≡ Some e → SuitsEvent (Env c.args.kind) e
    → ⊥) (λ i. (c.trace.ensures.value i, c.events_of-before.ensures.value i)) c.in-Err.ensures.disagrees)
