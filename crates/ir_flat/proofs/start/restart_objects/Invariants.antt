use Rattle.std.proofs.Common.{◌≡◌, ◌++◌, drop, length}
use Rattle.ir_flat.specs.Flat.{start_cells}
use Rattle.ir_flat.proofs.start.restart_objects.Given as goal

abbrev pub invariant-loop-number : goal.invariant-loop-number
invariant-loop-number l = record {
  size : length l.objects ≡ length l.fn.objects;
  objects : l.objects ≡ start_cells l.image 0 l.number ++ drop l.number l.fn.objects;
}
