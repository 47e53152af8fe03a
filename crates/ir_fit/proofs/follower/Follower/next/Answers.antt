use Rattle.ir_fit.proofs.Passed.{passed_states_equal}
use Rattle.ir_fit.proofs.follower.Follower.next.Goals as goal

pub returns-in-Some-ready_step-clause-passed : goal.returns-in-Some-ready_step-clause-passed
returns-in-Some-ready_step-clause-passed c = λ guest. passed_states_equal guest c.args.self.now.trace c.ready_step.new.self.trace c.args.self.now.flat
    c.ready_step.new.self.flat c.args.passing.now.states.items c.pass.new.passing.states.items c.ready_step.ensures.trace c.ready_step.ensures.flat
    (c.pass.ensures.passed guest)

pub returns-in-None-clause-passed : goal.returns-in-None-clause-passed
returns-in-None-clause-passed c = λ guest. passed_states_equal guest c.args.self.now.trace c.ready_step.new.self.trace c.args.self.now.flat
    c.ready_step.new.self.flat c.args.passing.now.states.items c.pass.new.passing.states.items c.ready_step.ensures.trace c.ready_step.ensures.flat
    (c.pass.ensures.passed guest)
