use Rattle.std.proofs.Common.{◌≡◌, length}
use Rattle.ir_stale_run.specs.Watch.{AreBuilt}
use Rattle.ir_stale_run.proofs.watches.empty_watches.Given as goal

abbrev pub invariant-loop : goal.invariant-loop
invariant-loop l = record {
  size : length l.watches.items ≡ l.counter;
  built : AreBuilt l.guide.copies l.guide.route.fitted.now l.guide.rows.now l.found 0 l.watches.items;
}
