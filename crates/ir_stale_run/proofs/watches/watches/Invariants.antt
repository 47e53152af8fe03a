use Rattle.std.proofs.Common.{◌≡◌, length}
use Rattle.ir_stale_run.specs.Watch.{AreBuilt}
use Rattle.ir_stale_run.proofs.watches.watches.Given as goal

abbrev pub invariant-loop-row : goal.invariant-loop-row
invariant-loop-row l = record {
  size : length l.watches.items ≡ length l.guide.route.fitted.now.guest.entries;
  built : AreBuilt l.guide.copies l.guide.route.fitted.now l.guide.rows.now l.found l.row l.watches.items;
}
