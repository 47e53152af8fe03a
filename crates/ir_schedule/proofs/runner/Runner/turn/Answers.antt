use Rattle.std.proofs.Common.{◌∙◌}
use Rattle.ir_schedule.proofs.Ready.{all_rest_after_rest}
use Rattle.ir_schedule.proofs.Runs.{ran_transitive, ran_by_chosen_thread, others_rest_transitive}
use Rattle.ir_schedule.specs.Choices.{before_rounds}
use Rattle.ir_schedule.specs.Moments.{moment_of}
use Rattle.ir_schedule.proofs.runner.Runner.turn.Goals as goal

pub returns-clause-ran : goal.returns-clause-ran
returns-clause-ran g c = λ d e chosen.
    ran_transitive c.args.tries (moment_of g.W.World.answers c.args.self.now) (moment_of g.W.World.answers c.step.new.self)
    (moment_of g.W.World.answers c.go_on.new.self) d e e
    (ran_by_chosen_thread c.args.tries (moment_of g.W.World.answers c.args.self.now) (moment_of g.W.World.answers c.step.new.self) c.args.t d e
    c.requires.thread chosen c.in_ok-step.ensures.took)
    (c.in_ok-go_on.ensures.ran e)

pub returns-clause-rest : goal.returns-clause-rest
returns-clause-rest g c = all_rest_after_rest c.args.tries c.args.t c.args.self.now.flat c.go_on.new.self.flat
    ((c.in_ok-go_on.ensures.ran before_rounds).gained.threads ∙ c.in_ok-step.ensures.took.gained.threads) c.requires.rest
    (others_rest_transitive c.args.tries c.args.t c.args.self.now.flat c.step.new.self.flat c.go_on.new.self.flat
    (c.in_ok-step.ensures.others c.args.tries) c.in_ok-go_on.ensures.others) c.in_ok-go_on.ensures.rests
