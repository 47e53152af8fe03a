use Rattle.std.proofs.Common.{arith}
use Rattle.ir_replay.proofs.Going.{passes_steps_left_fewer}
use Rattle.ir_replay.proofs.passes.go_on.Goals as goal

pub returns-then-taken-eq0-clause-goes : goal.returns-then-taken-eq0-clause-goes
returns-then-taken-eq0-clause-goes g c = passes_steps_left_fewer c.args.fitted.now c.args.target.now c.args.flat.now c.passes.flat c.pass-taken.new.flat
    c.args.most c.passes.left c.pass-taken.result c.requires.target c.passes.invariant c.pass-taken.ensures.passed
    (omega (arith, c.if-taken-eq0.true)) (omega (arith, c.passes-test.true))
