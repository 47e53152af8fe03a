use Rattle.std.proofs.Common.{◌≡◌, ◌+◌, ◌≤◌, None, sym, subst, arith}
use Rattle.ir_thread.specs.State.{ThreadState}
use Rattle.ir_thread.specs.Private.{PrivateSteps}
use Rattle.ir_thread.proofs.PrivateRuns.{thread_after_private_steps, private_of_machine_steps}
use Rattle.ir_thread.proofs.thread.Thread.run_within.Goals as goal

pub returns-clause-steps : goal.returns-clause-steps
returns-clause-steps c =
    let inside = c.self.inside in
    let none : inside.ended ≡ None = subst (λ (old : ThreadState). old.ended ≡ None) (sym c.self.view_is) c.requires.lives in
    let le : inside.steps + c.args.limit ≤ inside.budget =
    subst (λ (old : ThreadState). old.steps + c.args.limit ≤ old.budget) (sym c.self.view_is) c.requires.budget in
    let s : ThreadState = record {
      core = inside.mach;
      number = inside.number;
      held = inside.held.items;
      budget = inside.budget;
      profile = inside.profile;
      form = inside.form;
      steps =
          inside.steps;
      events = inside.events;
      output = inside.output.items;
      ended = inside.ended;
    } in
    let P : ThreadState → Type 0 = λ old. PrivateSteps c.args.code.now c.run_on-taken.result.0 old
    (thread_after_private_steps s c.run_on-taken.new.self c.run_on-taken.result.0) in
    subst P c.self.view_is
    (private_of_machine_steps c.args.code.now s c.run_on-taken.result.0 c.run_on-taken.new.self none
    (omega (arith, le, c.run_on-taken.ensures.within)) c.run_on-taken.ensures.steps)
