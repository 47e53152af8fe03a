use Rattle.std.proofs.Common.{◌≤◌, sym, subst, ◌∙◌, arith}
use Rattle.ir_thread.specs.State.{ThreadState}
use Rattle.ir_thread.specs.Private.{UnmarkedSteps}
use Rattle.ir_thread.proofs.PrivateRuns.{thread_after_private_steps, ended_none_unless_some, match_case_if_none}
use Rattle.ir_thread.proofs.Unmarked.{zero_unmarked_steps, unmarked_of_machine_steps}
use Rattle.ir_thread.proofs.thread.Thread.run_unmarked.Goals as goal

pub returns-then-is_some-clause-steps : goal.returns-then-is_some-clause-steps
returns-then-is_some-clause-steps c = zero_unmarked_steps c.args.code.now c.args.self.now

pub returns-clause-steps : goal.returns-clause-steps
returns-clause-steps c =
    let inside = c.self.inside in
    let none = ended_none_unless_some inside.ended (sym c.is_some.ensures ∙ c.if-is_some.false) in
    let le : inside.steps ≤ inside.budget = match_case_if_none inside.ended (inside.steps ≤ inside.budget) _ none c.self.invariant.3 in
    let s : ThreadState = record {
      core = inside.mach;
      number = inside.number;
      held = inside.held.items;
      budget = inside.budget;
      profile = inside.profile;
      form = inside.form;
      steps =
          inside.steps;
      events = inside.events;
      output = inside.output.items;
      ended = inside.ended;
    } in
    let P : ThreadState → Type 0 = λ old. UnmarkedSteps c.args.code.now c.run_unmarked-taken.result old
    (thread_after_private_steps s c.run_unmarked-taken.new.self c.run_unmarked-taken.result) in
    subst P c.self.view_is
    (unmarked_of_machine_steps c.args.code.now s c.run_unmarked-taken.result c.run_unmarked-taken.new.self none (omega (arith, le))
    c.run_unmarked-taken.ensures.steps)
