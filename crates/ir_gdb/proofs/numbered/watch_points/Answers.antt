use Rattle.std.proofs.Common.{rules, ◌≡◌}
use Rattle.ir_gdb.specs.Points.{watch_points}
use Rattle.ir_gdb.proofs.SearchPoints.{put_are_watchable}
use Rattle.ir_gdb.proofs.numbered.watch_points.Goals as goal

pub returns-clause-watchable : goal.returns-clause-watchable
returns-clause-watchable c =
    let is : c.put_watches.new.out.items ≡ watch_points c.args.thread 0 c.args.watches.now = search rules in
    put_are_watchable _ c.args.thread _ is c.requires.watched
