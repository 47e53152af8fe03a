use Rattle.ir_fit.proofs.follower.Follower.pass.Goals as goal

pub returns-clause-passed : goal.returns-clause-passed
returns-clause-passed c = λ guest along passed. c.reach.ensures guest c.args.self.now.trace along passed
