use Rattle.std.proofs.Common.{ℕ, sym, ap, subst, ◌∙◌, arith}
use Rattle.ir_thread.specs.Private.{PrivateSteps}
use Rattle.ir_thread.specs.State.{ThreadState}
use Rattle.ir_thread.proofs.PrivateRuns.{private_steps_append, private_steps_one_more, private_steps_keep, ended_none_unless_some}
use Rattle.ir_thread.proofs.thread.Thread.run_to_ask.Goals as goal

pub returns-then-taken-limit-clause-steps : goal.returns-then-taken-limit-clause-steps
returns-then-taken-limit-clause-steps c =
    subst (λ (n : ℕ). PrivateSteps c.args.code.now n c.args.self.now c.run_instructions-more.new.self) c.if-taken-limit.true
    (private_steps_append c.args.code.now c.loop-taken.taken c.run_instructions-more.result.0 c.args.self.now c.loop-taken.self
    c.run_instructions-more.new.self c.loop-taken.invariant.steps
    c.run_instructions-more.ensures.steps)

pub returns-in_default : goal.returns-in_default
returns-in_default c = record {
  within = omega (arith, c.run_instructions-more.ensures.within, c.loop-taken.invariant.within);
  steps = private_steps_append c.args.code.now c.loop-taken.taken c.run_instructions-more.result.0 c.args.self.now c.loop-taken.self
      c.run_instructions-more.new.self c.loop-taken.invariant.steps
      c.run_instructions-more.ensures.steps;
  asked = c.run_instructions-more.ensures.asked;
  stops = λ below. c.run_instructions-more.ensures.stops (omega (arith, below, c.loop-taken.invariant.within));
  shared = λ below private. c.in_default.not-Private private;
}

pub loop-taken-preserved : goal.loop-taken-preserved
loop-taken-preserved c = record {
  within = omega (arith, c.run_instructions-more.ensures.within, c.loop-taken.invariant.within, c.if-taken-limit.false);
  steps = private_steps_one_more c.args.code.now _ c.args.self.now c.run_instructions-more.new.self c.pass_own_number.new.self
      (private_steps_append c.args.code.now c.loop-taken.taken c.run_instructions-more.result.0 c.args.self.now c.loop-taken.self
      c.run_instructions-more.new.self c.loop-taken.invariant.steps
      c.run_instructions-more.ensures.steps)
      (sym c.run_instructions-more.ensures.asked ∙ c.in-Private.is) c.pass_own_number.ensures;
}

pub run_instructions-more-requires : goal.run_instructions-more-requires
run_instructions-more-requires c = (private_steps_keep c.args.code.now c.loop-taken.taken c.args.self.now c.loop-taken.self
    c.loop-taken.invariant.steps).ended
    ∙ sym (ap (λ (s : ThreadState). s.ended) c.self.view_is)
    ∙ ended_none_unless_some c.self.inside.ended (sym c.is_some.ensures ∙ c.if-is_some.false)
