use Rattle.std.proofs.Common.{◌≡◌, drop}
use Rattle.ir_picture.specs.Numbers.{version_read}
use Rattle.ir_picture.proofs.folds.version_read.Given as goal

abbrev pub invariant-loop-event : goal.invariant-loop-event
invariant-loop-event l = version_read l.object (drop l.event-index l.events) ≡ version_read l.object l.events
