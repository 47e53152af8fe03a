use Rattle.std.proofs.Common.{◌≡◌, ◌<◌, ◌∙◌, ℕ, length, sym, refl, subst, arith, false}
use Rattle.ir_schedule.proofs.Runs.{ran_reflexive, ran_transitive, ran_by_thread_under_way, others_rest_transitive, took_some_of_sum}
use Rattle.ir_schedule.proofs.Runs.{lower_rest_if_others, rests_is_rest_of_ask, took_one_lowers_left, took_one_is_took_zero}
use Rattle.ir_schedule.specs.Choices.{before_rounds}
use Rattle.ir_schedule.specs.Moments.{IsAtRest, TookSome, moment_of}
use Rattle.ir_schedule.specs.Schedules.{rests}
use Rattle.ir_flat.specs.Flat.{machine, tables}
use Rattle.ir_schedule.proofs.runner.Runner.go_on.Given.{Over}
use Rattle.ir_schedule.proofs.runner.Runner.go_on.Goals as goal

pub steps-init : goal.steps-init
steps-init g c = record {
  kept = refl;
  ran = λ d. ran_reflexive c.args.tries (moment_of g.W.World.answers c.args.self.now) d;
  ready = c.requires.ready;
  thread = c.requires.thread;
  lower = c.requires.lower;
  others = λ u ne. refl;
  fewer = omega arith;
  threads = refl;
}

pub returns-then-is_rest-clause-ran : goal.returns-then-is_rest-clause-ran
returns-then-is_rest-clause-ran g c = λ d.
    ran_transitive c.args.tries (moment_of g.W.World.answers c.args.self.now) (moment_of g.W.World.answers c.steps.self)
    (moment_of g.W.World.answers c.run_to_ask.new.self) d d d (c.steps.invariant.ran d)
    (c.in_ok-asked.ensures.ran c.args.tries c.steps.invariant.lower d)

pub returns-then-is_rest-clause-fewer : goal.returns-then-is_rest-clause-fewer
returns-then-is_rest-clause-fewer g c = took_some_of_sum 0 0 c.args.self.now.flat c.steps.self.flat c.run_to_ask.new.self.flat
    c.steps.invariant.threads c.steps.invariant.fewer c.in_ok-asked.ensures.fewer

-- the threads are as many as they were
still : (g : Over) (c : goal.In_ok-step g) → length c.run_to_ask.new.self.flat.threads ≡ length c.steps.self.flat.threads
still g c = (c.in_ok-asked.ensures.ran c.args.tries c.steps.invariant.lower before_rounds).gained.threads

-- both went on
went : (g : Over) (c : goal.In_ok-step g) → TookSome 1 c.steps.self.flat c.step.new.self.flat
went g c = took_some_of_sum 0 1 c.steps.self.flat c.run_to_ask.new.self.flat c.step.new.self.flat (still g c) c.in_ok-asked.ensures.fewer
    c.in_ok-step.ensures.fewer

pub steps-smaller : goal.steps-smaller
steps-smaller g c = took_one_lowers_left c.steps.self.flat c.step.new.self.flat (c.in_ok-step.ensures.took.gained.threads ∙ still g c) (went g c)

pub steps-preserved : goal.steps-preserved
steps-preserved g c =
    let lower : (u : ℕ) → u < c.args.t → IsAtRest c.args.tries c.run_to_ask.new.self.flat u =
    lower_rest_if_others c.args.tries c.args.t c.steps.self.flat c.run_to_ask.new.self.flat (c.in_ok-asked.ensures.others c.args.tries)
    c.steps.invariant.lower in
    let under : rests c.args.tries (machine c.run_to_ask.new.self.flat) (tables c.run_to_ask.new.self.flat) c.args.t ≡ false =
    rests_is_rest_of_ask c.args.tries c.run_to_ask.new.self.flat c.args.t c.in_ok-asked.asked false c.in_ok-asked.ensures.asked
    (sym c.if-is_rest.false ∙ c.is_rest.ensures) in
    record {
      kept = c.in_ok-step.ensures.kept ∙ c.in_ok-asked.ensures.kept ∙ c.steps.invariant.kept;
      ran = λ d.
          ran_transitive c.args.tries (moment_of g.W.World.answers c.args.self.now) (moment_of g.W.World.answers c.run_to_ask.new.self)
          (moment_of g.W.World.answers c.step.new.self) d d d
          (ran_transitive c.args.tries (moment_of g.W.World.answers c.args.self.now) (moment_of g.W.World.answers c.steps.self)
          (moment_of g.W.World.answers c.run_to_ask.new.self) d d d (c.steps.invariant.ran d)
          (c.in_ok-asked.ensures.ran c.args.tries c.steps.invariant.lower d))
          (ran_by_thread_under_way c.args.tries (moment_of g.W.World.answers c.run_to_ask.new.self) (moment_of g.W.World.answers c.step.new.self)
          c.args.t d (subst (λ n. c.args.t < n) (sym (still g c)) c.steps.invariant.thread) under lower c.in_ok-step.ensures.took);
      ready = c.in_ok-step.ensures.ready;
      thread = subst (λ n. c.args.t < n) (sym (c.in_ok-step.ensures.took.gained.threads ∙ still g c)) c.steps.invariant.thread;
      lower = lower_rest_if_others c.args.tries c.args.t c.run_to_ask.new.self.flat c.step.new.self.flat (c.in_ok-step.ensures.others c.args.tries) lower;
      others = others_rest_transitive c.args.tries c.args.t c.args.self.now.flat c.run_to_ask.new.self.flat c.step.new.self.flat
          (others_rest_transitive c.args.tries c.args.t c.args.self.now.flat c.steps.self.flat c.run_to_ask.new.self.flat c.steps.invariant.others
          (c.in_ok-asked.ensures.others c.args.tries)) (c.in_ok-step.ensures.others c.args.tries);
      fewer = took_some_of_sum 0 0 c.args.self.now.flat c.steps.self.flat c.step.new.self.flat c.steps.invariant.threads c.steps.invariant.fewer
          (took_one_is_took_zero c.steps.self.flat c.step.new.self.flat (went g c));
      threads = c.in_ok-step.ensures.took.gained.threads ∙ still g c ∙ c.steps.invariant.threads;
    }
