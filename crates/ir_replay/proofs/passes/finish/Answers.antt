use Rattle.std.proofs.Common.{arith}
use Rattle.ir_replay.proofs.Reached.{all_rest_reaches_target}
use Rattle.ir_replay.proofs.passes.finish.Goals as goal

pub returns-clause-reached : goal.returns-clause-reached
returns-clause-reached c = all_rest_reaches_target c.args.fitted.now c.args.target.now c.pass.new.flat c.requires.target c.pass.ensures.passed.under
    (c.pass.ensures.passed.rest (omega (arith, c.passes-test.false)) (omega arith))
