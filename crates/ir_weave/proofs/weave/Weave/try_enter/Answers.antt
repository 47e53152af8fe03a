use Rattle.std.proofs.Common.{◌≡◌, ◌∙◌, ℕ, ap, refl, subst}
use Rattle.std.specs.Prelude.{slice_get, Some}
use Rattle.ir_log.specs.Asked.{SuitsEvent}
use Rattle.ir_log.proofs.CallerLemmas.{ask_of_entry_event}
use Rattle.ir_log.specs.declared.event.Event.{Event}
use Rattle.ir_trace.specs.Recorded.{Recorded, recorded_thread}
use Rattle.ir_thread.specs.declared.ask.Ask.TheVariants.{Enter}
use Rattle.ir_weave.specs.Woven.{met_of}
use Rattle.ir_weave.proofs.Steps.{stepped_without_value, asked_event_exists, stopped_has_waited, asked_entry_is_entering}
use Rattle.ir_weave.proofs.weave.Weave.try_enter.Goals as goal

pub unreachable-requires : goal.unreachable-requires
unreachable-requires c = asked_event_exists c.args.self.now.table.shared.key c.args.fitted.now c.args.seat.now.me.0 c.args.thread.now
    (Enter c.args.object c.args.access) c.requires.table c.requires.thread c.requires.asking refl
    (subst (λ (z : Recorded × ℕ × ℕ). (e : Event) → slice_get (recorded_thread z.0 z.1).events z.2 ≡ Some e
    → SuitsEvent (Enter c.args.object c.args.access) e → ⊥)
    (λ i. (c.trace.ensures.value i, c.number-number.ensures i, c.events.ensures.value i)) c.in-Err.ensures.disagrees)

pub enter-requires-clause-entering : goal.enter-requires-clause-entering
enter-requires-clause-entering c = asked_entry_is_entering c.args.self.now.table.shared.key c.args.fitted.now c.args.thread.now
    (Enter c.args.object c.args.access) c.args.object c.args.access c.in-Ok.event c.requires.table c.requires.asking
    (subst (λ (z : Recorded × ℕ × ℕ). slice_get (recorded_thread z.0 z.1).events z.2 ≡ Some c.in-Ok.event)
    (λ i. (c.trace.ensures.value i, c.number-number.ensures i, c.events.ensures.value i)) c.in-Ok.ensures.next) c.in-Ok.ensures.suits
    (ask_of_entry_event c.args.object c.args.access c.in-Ok.event c.in-Ok.ensures.suits)

pub returns-then-not-enter-clause-stopped : goal.returns-then-not-enter-clause-stopped
returns-then-not-enter-clause-stopped c off = let z = c.enter.ensures.stopped c.if-not-enter.true in
    stopped_has_waited c.args.self.now.table.shared.key c.args.seat.now.me c.enter.new.seat.me c.args.thread.now c.requires.thread z.0 z.1 z.2

pub returns-clause-stepped : goal.returns-clause-stepped
returns-clause-stepped c on =
    stepped_without_value c.args.self.now.table.shared.key c.args.fitted.now c.code.result.now c.args.seat.now.me c.enter.new.seat.me
    c.args.thread.now c.take_asked.new.self (Enter c.args.object c.args.access) c.requires.table
    (c.code.ensures.value ∙ ap (λ g. g.code) c.image.ensures.value) c.requires.thread c.requires.asking tt tt c.take_asked.ensures
    (met_of c.enter.new.seat.me.0) c.enter.ensures.rises (c.enter.ensures.entered c.if-not-enter.false)
