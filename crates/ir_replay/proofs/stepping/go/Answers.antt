use Rattle.std.proofs.Common.{arith}
use Rattle.ir_weave.proofs.CallerLemmas.{under_target_after_alone}
use Rattle.ir_replay.proofs.Going.{gone_then_private, gone_then_same, has_gone_after_step}
use Rattle.ir_replay.proofs.stepping.go.Goals as goal

pub returns-then-taken-most-clause-under : goal.returns-then-taken-most-clause-under
returns-then-taken-most-clause-under g c =
    under_target_after_alone c.args.fitted.now c.args.target.now c.steps.flat c.run_to_ask-more.new.self c.args.t c.run_to_ask-more.result.0
    c.requires.target c.steps.invariant.under
    (let a = c.run_to_ask-more.ensures.within in let b = c.left.ensures in let m = c.min-limit.ensures in omega (arith, a, b, m))
    c.run_to_ask-more.ensures.went

pub returns-then-taken-most-clause-gone : goal.returns-then-taken-most-clause-gone
returns-then-taken-most-clause-gone g c = gone_then_private c.args.flat.now c.steps.flat c.run_to_ask-more.new.self c.args.t c.steps.taken
    c.run_to_ask-more.result.0 c.steps.invariant.gone c.run_to_ask-more.ensures.went

pub step_asked-requires-clause-under : goal.step_asked-requires-clause-under
step_asked-requires-clause-under g c =
    under_target_after_alone c.args.fitted.now c.args.target.now c.steps.flat c.run_to_ask-more.new.self c.args.t c.run_to_ask-more.result.0
    c.requires.target c.steps.invariant.under
    (let a = c.run_to_ask-more.ensures.within in let b = c.left.ensures in let m = c.min-limit.ensures in omega (arith, a, b, m))
    c.run_to_ask-more.ensures.went

pub returns-then-not-step_asked-clause-gone : goal.returns-then-not-step_asked-clause-gone
returns-then-not-step_asked-clause-gone g c =
    gone_then_same c.args.flat.now c.run_to_ask-more.new.self c.step_asked.new.flat c.args.t _
    (gone_then_private c.args.flat.now c.steps.flat c.run_to_ask-more.new.self c.args.t c.steps.taken c.run_to_ask-more.result.0
    c.steps.invariant.gone c.run_to_ask-more.ensures.went) (c.step_asked.ensures.same c.if-not-step_asked.true)

pub steps-preserved : goal.steps-preserved
steps-preserved g c =
    let went = c.run_to_ask-more.ensures.within in
    let m = c.min-limit.ensures in
    let less = c.if-taken-most.false in
    let i = c.steps.invariant.within in
    record {
      under = c.step_asked.ensures.under;
      gone = has_gone_after_step c.args.flat.now c.run_to_ask-more.new.self c.step_asked.new.flat c.args.t _
          (gone_then_private c.args.flat.now c.steps.flat c.run_to_ask-more.new.self c.args.t c.steps.taken c.run_to_ask-more.result.0
          c.steps.invariant.gone c.run_to_ask-more.ensures.went) (c.step_asked.ensures.gone c.if-not-step_asked.false);
      within = omega (arith, went, m, less, i);
    }
