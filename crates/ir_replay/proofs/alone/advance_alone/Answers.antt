use Rattle.ir_replay.proofs.Reached.{consistent_is_target, standing_is_under, under_stands_at_own, under_not_past_target, standing_has_gone, standing_rests}
use Rattle.ir_replay.proofs.alone.advance_alone.Goals as goal

pub go-taken-requires-clause-target : goal.go-taken-requires-clause-target
go-taken-requires-clause-target g c = consistent_is_target c.args.fitted.now c.args.target.now c.positions.result.now c.positions.ensures
    c.known.ensures c.requires.target

pub go-taken-requires-clause-under : goal.go-taken-requires-clause-under
go-taken-requires-clause-under g c = standing_is_under c.args.fitted.now c.args.target.now c.positions.result.now c.args.state
    c.with_code-flat.result c.with_code-flat.ensures c.positions.ensures c.requires.state c.requires.below

pub returns-clause-stands : goal.returns-clause-stands
returns-clause-stands g c = under_stands_at_own c.args.fitted.now c.positions.result.now c.go-taken.new.flat c.without_code.result
    c.go-taken.ensures.under c.without_code.ensures.state c.without_code.ensures.within

pub returns-clause-below : goal.returns-clause-below
returns-clause-below g c = under_not_past_target c.args.fitted.now c.args.target.now c.positions.result.now c.go-taken.new.flat
    c.without_code.result c.positions.ensures c.go-taken.ensures.under c.without_code.ensures.state

pub returns-clause-gone : goal.returns-clause-gone
returns-clause-gone g c = standing_has_gone c.args.fitted.now c.args.state c.without_code.result c.with_code-flat.result c.go-taken.new.flat
    c.args.t c.go-taken.result c.with_code-flat.ensures c.go-taken.ensures.gone c.without_code.ensures.state

pub returns-clause-rests : goal.returns-clause-rests
returns-clause-rests g c less = standing_rests c.args.fitted.now c.args.target.now c.positions.result.now c.without_code.result
    c.go-taken.new.flat c.args.t c.positions.ensures (c.go-taken.ensures.rests less) c.without_code.ensures.state
