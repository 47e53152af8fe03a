use Rattle.ir_fit.proofs.fitting.fit_passing.Goals as goal

pub returns-clause-passed : goal.returns-clause-passed
returns-clause-passed g c = c.in_ok-fitted.ensures.passed (c.along-passing.ensures c.args.image c.args.trace)
