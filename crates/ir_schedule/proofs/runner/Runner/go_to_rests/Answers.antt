use Rattle.std.proofs.Common.{◌≡◌, ◌∙◌, length, refl, ap, arith}
use Rattle.ir_schedule.proofs.Ready.{lower_threads_rest_step}
use Rattle.ir_schedule.proofs.Runs.{ran_reflexive, ran_transitive}
use Rattle.ir_schedule.specs.Choices.{before_rounds}
use Rattle.ir_schedule.specs.Moments.{moment_of}
use Rattle.ir_schedule.proofs.runner.Runner.go_to_rests.Goals as goal

pub threads-init : goal.threads-init
threads-init g c = record {
  kept = refl;
  ran = λ d. ran_reflexive c.args.tries (moment_of g.W.World.answers c.args.self.now) d;
  ready = c.requires.ready;
  rest = λ u l. absurd (omega (arith, l));
  threads = refl;
}

pub threads-preserved : goal.threads-preserved
threads-preserved g c = record {
  kept = c.in_ok-go_on.ensures.kept ∙ c.threads.invariant.kept;
  ran = λ d. ran_transitive c.args.tries (moment_of g.W.World.answers c.args.self.now) (moment_of g.W.World.answers c.threads.self)
      (moment_of g.W.World.answers c.go_on.new.self) d d d (c.threads.invariant.ran d) (c.in_ok-go_on.ensures.ran d);
  ready = c.in_ok-go_on.ensures.ready;
  rest = lower_threads_rest_step c.args.tries c.threads.t c.threads.self.flat c.go_on.new.self.flat c.threads.invariant.rest
      c.in_ok-go_on.ensures.others c.in_ok-go_on.ensures.rests;
  threads = (c.in_ok-go_on.ensures.ran before_rounds).gained.threads ∙ c.threads.invariant.threads;
}

pub returns-clause-rest : goal.returns-clause-rest
returns-clause-rest g c = λ u l.
    let e : length c.threads-t-end.result.now ≡ length c.args.self.now.flat.threads = ap (λ xs. length xs) c.threads-t-end.ensures.value in
    c.threads.invariant.rest u (let same = c.threads.invariant.threads in omega (arith, e, l, same, c.threads-test.false, c.threads.auto.t-end))
