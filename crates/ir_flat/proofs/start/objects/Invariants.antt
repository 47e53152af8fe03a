use Rattle.std.proofs.Common.{◌≡◌}
use Rattle.ir_flat.specs.Flat.{start_cells}
use Rattle.ir_flat.proofs.start.objects.Given as goal

abbrev pub invariant-loop-number : goal.invariant-loop-number
invariant-loop-number l = l.objects.items ≡ start_cells l.image 0 l.number
