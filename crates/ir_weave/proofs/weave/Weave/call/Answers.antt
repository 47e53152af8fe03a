use Rattle.std.proofs.Common.{◌≡◌, ◌∙◌, ℕ, ap, subst, refl}
use Rattle.std.specs.Prelude.{slice_get, Some}
use Rattle.ir_log.specs.Asked.{SuitsEvent}
use Rattle.ir_log.specs.declared.event.Event.{Event}
use Rattle.ir_trace.specs.Recorded.{Recorded, recorded_thread}
use Rattle.ir_thread.specs.declared.ask.Ask.TheVariants.{Env}
use Rattle.ir_weave.proofs.Steps.{stepped_by_call, asked_event_exists}
use Rattle.ir_weave.proofs.weave.Weave.call.Goals as goal

pub unreachable-requires-in-Err : goal.unreachable-requires-in-Err
unreachable-requires-in-Err c = asked_event_exists c.args.self.now.table.shared.key c.args.fitted.now c.args.seat.now.me.0 c.args.thread.now
    (Env c.args.kind) c.requires.table c.requires.thread c.requires.asking refl
    (subst (λ (z : Recorded × ℕ × ℕ). (e : Event) → slice_get (recorded_thread z.0 z.1).events z.2 ≡ Some e → SuitsEvent (Env c.args.kind) e → ⊥)
    (λ i. (c.trace.ensures.value i, c.number-number.ensures i, c.events.ensures.value i)) c.in-Err.ensures.disagrees)

pub returns : goal.returns
returns c =
    stepped_by_call c.args.self.now.table.shared.key c.args.fitted.now c.code.result.now c.args.seat.now.me c.args.thread.now
    c.take_asked.new.self c.args.kind c.in-Ok-Answer.field-0-0 c.in-Ok-Answer.value c.requires.table
    (c.code.ensures.value ∙ ap (λ g. g.code) c.image.ensures.value) c.requires.thread c.requires.asking
    (subst (λ (z : Recorded × ℕ × ℕ × Event). slice_get (recorded_thread z.0 z.1).events z.2 ≡ Some z.3)
    (λ i. (c.trace.ensures.value i, c.number-number.ensures i, c.events.ensures.value i, c.in-Ok-Answer.field-0-is i))
    c.in-Ok-Answer.ensures.next) c.take_asked.ensures
