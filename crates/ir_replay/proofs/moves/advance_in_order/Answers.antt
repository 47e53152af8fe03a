use Rattle.ir_replay.proofs.Reached.{standing_is_under, consistent_is_target, reached_stands_at}
use Rattle.ir_replay.proofs.moves.advance_in_order.Goals as goal

pub follow-requires-clause-target : goal.follow-requires-clause-target
follow-requires-clause-target c = consistent_is_target c.args.fitted.now c.args.target.now c.positions.result.now c.positions.ensures c.known.ensures
    (c.requires.size, c.requires.consistent)

pub follow-requires-clause-under : goal.follow-requires-clause-under
follow-requires-clause-under c = standing_is_under c.args.fitted.now c.args.target.now c.positions.result.now c.args.state c.with_code-flat.result
    c.with_code-flat.ensures c.positions.ensures c.requires.state c.requires.below

pub finish-requires-clause-target : goal.finish-requires-clause-target
finish-requires-clause-target c = consistent_is_target c.args.fitted.now c.args.target.now c.positions-2.result.now c.positions-2.ensures
    c.known.ensures (c.requires.size, c.requires.consistent)

pub returns : goal.returns
returns c = reached_stands_at c.args.fitted.now c.args.target.now c.positions-2.result.now c.finish.new.flat c.without_code.result
    c.positions-2.ensures c.finish.ensures.under c.finish.ensures.reached c.without_code.ensures.state c.without_code.ensures.within
