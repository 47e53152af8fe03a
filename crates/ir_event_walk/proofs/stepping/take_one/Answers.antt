use Rattle.std.proofs.Common.{◌≡◌, ◌∙◌, ap, arith}
use Rattle.ir_image.specs.Guest.{Guest}
use Rattle.ir_events.proofs.CallerLemmas.{ends_are_consistent_cut}
use Rattle.ir_event_walk.proofs.Taken.{no_step_no_calls, calls_taken_in_one_step}
use Rattle.ir_event_walk.proofs.stepping.take_one.Goals as goal

pub advance_alone-state-requires-clause-target : goal.advance_alone-state-requires-clause-target
advance_alone-state-requires-clause-target c = (
  c.requires.route.last.size,
  ends_are_consistent_cut c.args.route.fitted.now c.args.route.ends.now c.requires.route.last,
)

pub returns-then-steps-eq0-clause-calls : goal.returns-then-steps-eq0-clause-calls
returns-then-steps-eq0-clause-calls c = no_step_no_calls c.args.route.fitted.now c.args.t _ c.advance_alone-state.result.1 c.if-steps-eq0.true

pub returns-clause-calls : goal.returns-clause-calls
returns-clause-calls c =
    let f = c.args.route.fitted.now in
    let one : c.advance_alone-state.result.1 ≡ 1 = (let a = c.advance_alone-state.ensures.within in let b = c.if-steps-eq0.false in omega (arith, a, b)) in
    calls_taken_in_one_step f c.code.result.now c.requires.route.last.run.run c.args.state c.advance_alone-state.result.0 c.args.t c.advance_alone-state.result.1
    c.ask-asked.result c.thread_of.result.now c.thread_of-2.result.now _ c.requires.route.last.run.whole
    (c.code.ensures.value ∙ ap (λ (g : Guest). g.code) c.image.ensures.value) c.requires.way.stands c.advance_alone-state.ensures.stands
    c.advance_alone-state.ensures.gone one c.thread_of.ensures c.ask-asked.ensures.value c.thread_of-2.ensures c.call_of-call.ensures
