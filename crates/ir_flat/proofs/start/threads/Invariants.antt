use Rattle.std.proofs.Common.{◌≡◌}
use Rattle.ir_flat.specs.Flat.{start_threads}
use Rattle.ir_flat.proofs.start.threads.Given as goal

abbrev pub invariant-loop-number : goal.invariant-loop-number
invariant-loop-number l = l.threads.items ≡ start_threads l.image l.budget l.profile 0 l.number
