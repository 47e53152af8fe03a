use Rattle.std.proofs.Common.{◌≡◌, take, map}
use Rattle.ir_checkpoint.proofs.gathering.cut_of.Given as goal

abbrev pub invariant-loop-thread : goal.invariant-loop-thread
invariant-loop-thread l = l.positions.items ≡ map (λ t. t.steps) (take l.thread-index l.threads)
