use Rattle.std.proofs.Common.{◌≡◌, ◌∙◌, ℕ, ap, refl, subst}
use Rattle.std.specs.Prelude.{slice_get, Some}
use Rattle.ir_log.specs.Asked.{SuitsEvent}
use Rattle.ir_log.specs.declared.event.Event.{Event}
use Rattle.ir_trace.specs.Recorded.{Recorded, recorded_thread}
use Rattle.ir_thread.specs.declared.ask.Ask.TheVariants.{Try}
use Rattle.ir_runs.specs.declared.access.Access.TheVariants.{Writing}
use Rattle.ir_weave.specs.Woven.{met_of}
use Rattle.ir_weave.proofs.Steps.{asked_event_exists, stopped_has_waited, asked_entry_is_entering, entering_try_parts, stepped_by_entering_try, stepped_by_refused_try}
use Rattle.ir_weave.proofs.weave.Weave.try_in.Goals as goal

pub unreachable-requires : goal.unreachable-requires
unreachable-requires c = asked_event_exists c.args.self.now.table.shared.key c.args.fitted.now c.args.seat.now.me.0 c.args.thread.now
    (Try c.args.object) c.requires.table c.requires.thread c.requires.asking refl
    (subst (λ (z : Recorded × ℕ × ℕ). (e : Event) → slice_get (recorded_thread z.0 z.1).events z.2 ≡ Some e
    → SuitsEvent (Try c.args.object) e → ⊥)
    (λ i. (c.trace.ensures.value i, c.number-number.ensures i, c.events.ensures.value i)) c.in-Err.ensures.disagrees)

pub enter-requires-clause-entering : goal.enter-requires-clause-entering
enter-requires-clause-entering c = asked_entry_is_entering c.args.self.now.table.shared.key c.args.fitted.now c.args.thread.now (Try c.args.object)
    c.args.object Writing c.in-Ok.event c.requires.table c.requires.asking
    (subst (λ (z : Recorded × ℕ × ℕ). slice_get (recorded_thread z.0 z.1).events z.2 ≡ Some c.in-Ok.event)
    (λ i. (c.trace.ensures.value i, c.number-number.ensures i, c.events.ensures.value i)) c.in-Ok.ensures.next) c.in-Ok.ensures.suits
    (entering_try_parts c.args.object c.in-Ok.event c.in-Ok.ensures.suits c.in_default.not-Try).1

pub returns-in-Try-clause-stepped : goal.returns-in-Try-clause-stepped
returns-in-Try-clause-stepped c on =
    stepped_by_refused_try c.args.self.now.table.shared.key c.args.fitted.now c.code.result.now c.args.seat.now.me c.args.thread.now
    c.take_asked.new.self c.args.object c.in-Try.object c.requires.table
    (c.code.ensures.value ∙ ap (λ g. g.code) c.image.ensures.value) c.requires.thread c.requires.asking
    (subst (λ (z : Recorded × ℕ × ℕ × Event). slice_get (recorded_thread z.0 z.1).events z.2 ≡ Some z.3)
    (λ i. (c.trace.ensures.value i, c.number-number.ensures i, c.events.ensures.value i, c.in-Try.is i)) c.in-Ok.ensures.next)
    c.take_asked.ensures

pub returns-then-not-enter-clause-stopped : goal.returns-then-not-enter-clause-stopped
returns-then-not-enter-clause-stopped c off = let z = c.enter.ensures.stopped c.if-not-enter.true in
    stopped_has_waited c.args.self.now.table.shared.key c.args.seat.now.me c.enter.new.seat.me c.args.thread.now c.requires.thread z.0 z.1 z.2

pub returns-else-not-enter-clause-stepped : goal.returns-else-not-enter-clause-stepped
returns-else-not-enter-clause-stepped c on =
    stepped_by_entering_try c.args.self.now.table.shared.key c.args.fitted.now c.code-in_default.result.now c.args.seat.now.me c.enter.new.seat.me
    c.args.thread.now c.take_asked-in_default.new.self c.args.object c.in-Ok.event c.requires.table
    (c.code-in_default.ensures.value ∙ ap (λ g. g.code) c.image-in_default.ensures.value) c.requires.thread c.requires.asking
    (subst (λ (z : Recorded × ℕ × ℕ). slice_get (recorded_thread z.0 z.1).events z.2 ≡ Some c.in-Ok.event)
    (λ i. (c.trace.ensures.value i, c.number-number.ensures i, c.events.ensures.value i)) c.in-Ok.ensures.next)
    (entering_try_parts c.args.object c.in-Ok.event c.in-Ok.ensures.suits c.in_default.not-Try).0 c.take_asked-in_default.ensures
    (met_of c.enter.new.seat.me.0) c.enter.ensures.rises (c.enter.ensures.entered c.if-not-enter.false)
