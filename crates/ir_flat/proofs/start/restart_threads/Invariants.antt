use Rattle.std.proofs.Common.{◌≡◌, ◌++◌, drop, length}
use Rattle.ir_flat.specs.Flat.{start_threads}
use Rattle.ir_flat.proofs.start.restart_threads.Given as goal

abbrev pub invariant-loop-number : goal.invariant-loop-number
invariant-loop-number l = record {
  size : length l.threads ≡ length l.fn.threads;
  threads : l.threads ≡ start_threads l.image l.budget l.profile 0 l.number ++ drop l.number l.fn.threads;
}
