use Rattle.ir_replay.proofs.Reached.{consistent_is_target, standing_is_under, standing_is_between, standing_goes_on}
use Rattle.ir_replay.proofs.stretch.stretch.Goals as goal

pub go_on-requires-clause-target : goal.go_on-requires-clause-target
go_on-requires-clause-target g c = consistent_is_target c.args.fitted.now c.args.target.now c.positions.result.now c.positions.ensures c.known.ensures
    c.requires.target

pub go_on-requires-clause-under : goal.go_on-requires-clause-under
go_on-requires-clause-under g c = standing_is_under c.args.fitted.now c.args.target.now c.positions.result.now c.args.state c.with_code-flat.result
    c.with_code-flat.ensures c.positions.ensures c.requires.state c.requires.below

pub returns-clause-between : goal.returns-clause-between
returns-clause-between g c = standing_is_between c.args.fitted.now c.args.target.now c.positions.result.now c.args.state c.without_code.result
    c.with_code-flat.result c.go_on.new.flat c.with_code-flat.ensures c.positions.ensures c.go_on.ensures.under c.go_on.ensures.above
    c.without_code.ensures.state c.without_code.ensures.within

pub returns-clause-goes : goal.returns-clause-goes
returns-clause-goes g c = standing_goes_on c.args.fitted.now c.args.target.now c.positions.result.now c.args.state c.without_code.result
    c.with_code-flat.result c.go_on.new.flat c.with_code-flat.ensures c.positions.ensures c.go_on.ensures.goes c.without_code.ensures.state
