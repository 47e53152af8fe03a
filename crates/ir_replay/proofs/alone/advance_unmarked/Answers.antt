use Rattle.std.proofs.Common.{arith}
use Rattle.ir_replay.proofs.Reached.{under_stands_at_own, under_not_past_target}
use Rattle.ir_replay.proofs.Unmarked.{under_after_private, standing_gone_alone, standing_steps_unmarked, rests_unmarked_if_fewer}
use Rattle.ir_replay.proofs.alone.advance_unmarked.Goals as goal

pub returns-clause-stands : goal.returns-clause-stands
returns-clause-stands c = under_stands_at_own c.args.fitted.now c.positions.result.now c.run_unmarked-taken.new.self c.without_code.result
    (under_after_private c.args.fitted.now c.args.target.now c.positions.result.now c.args.state c.with_code-flat.result
    c.run_unmarked-taken.new.self c.args.t c.run_unmarked-taken.result c.with_code-flat.ensures c.positions.ensures c.known.ensures
    c.requires.target c.requires.state c.requires.below
    (let a = c.run_unmarked-taken.ensures.within in let b = c.left.ensures in let m = c.min-limit.ensures in omega (arith, a, b, m))
    c.run_unmarked-taken.ensures.went) c.without_code.ensures.state c.without_code.ensures.within

pub returns-clause-below : goal.returns-clause-below
returns-clause-below c = under_not_past_target c.args.fitted.now c.args.target.now c.positions.result.now c.run_unmarked-taken.new.self
    c.without_code.result c.positions.ensures
    (under_after_private c.args.fitted.now c.args.target.now c.positions.result.now c.args.state c.with_code-flat.result
    c.run_unmarked-taken.new.self c.args.t c.run_unmarked-taken.result c.with_code-flat.ensures c.positions.ensures c.known.ensures
    c.requires.target c.requires.state c.requires.below
    (let a = c.run_unmarked-taken.ensures.within in let b = c.left.ensures in let m = c.min-limit.ensures in omega (arith, a, b, m))
    c.run_unmarked-taken.ensures.went) c.without_code.ensures.state

pub returns-clause-gone : goal.returns-clause-gone
returns-clause-gone c = standing_gone_alone c.args.fitted.now c.args.state c.without_code.result c.with_code-flat.result
    c.run_unmarked-taken.new.self c.args.t c.run_unmarked-taken.result c.with_code-flat.ensures c.run_unmarked-taken.ensures.went
    c.without_code.ensures.state

pub returns-clause-unmarked : goal.returns-clause-unmarked
returns-clause-unmarked c = standing_steps_unmarked c.args.fitted.now c.args.state c.without_code.result c.with_code-flat.result
    c.run_unmarked-taken.new.self c.args.code.now c.args.t c.run_unmarked-taken.result c.with_code-flat.ensures
    c.run_unmarked-taken.ensures.unmarked c.without_code.ensures.state

pub returns-clause-stops : goal.returns-clause-stops
returns-clause-stops c = rests_unmarked_if_fewer c.args.fitted.now c.args.target.now c.positions.result.now c.without_code.result
    c.with_code-flat.result c.run_unmarked-taken.new.self c.args.code.now c.args.t c.run_unmarked-taken.result c.min-limit.result
    c.args.most c.positions.ensures c.run_unmarked-taken.ensures.went
    (λ left less. let b = c.left.ensures in let m = c.min-limit.ensures in omega (arith, left, less, b, m))
    c.run_unmarked-taken.ensures.stops c.without_code.ensures.state
