use Rattle.std.proofs.Common.{◌≡◌, take}
use Rattle.ir_run_picture.specs.Resting.{stale_of_rests}
use Rattle.ir_run_picture.proofs.keeping.writes_of.Given as goal

abbrev pub invariant-loop-own : goal.invariant-loop-own
invariant-loop-own l = l.writes.items ≡ stale_of_rests (take l.own-index l.kept)
