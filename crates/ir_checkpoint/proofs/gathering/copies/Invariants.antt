use Rattle.std.proofs.Common.{◌≡◌, take}
use Rattle.ir_checkpoint.proofs.gathering.copies.Given as goal

abbrev pub invariant-loop-object : goal.invariant-loop-object
invariant-loop-object l = l.copies.items ≡ take l.object-index l.objects
