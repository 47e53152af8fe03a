use Rattle.std.proofs.Common.{rules, ◌≡◌}
use Rattle.ir_gdb.specs.Points.{points_downwards}
use Rattle.ir_gdb.proofs.SearchPoints.{downwards_are_watchable}
use Rattle.ir_gdb.proofs.numbered.points_downwards.Goals as goal

pub returns-clause-watchable : goal.returns-clause-watchable
returns-clause-watchable c =
    let is : c.put_own.new.out.items ≡ points_downwards c.args.thread c.args.halts.watches.now c.args.halts.breaks.now c.args.halts.own.now = search rules in
    downwards_are_watchable _ c.args.thread _ _ _ is c.requires.watched c.requires.own
