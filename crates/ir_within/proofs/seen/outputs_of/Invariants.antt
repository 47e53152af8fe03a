use Rattle.std.proofs.Common.{◌≡◌, take, map}
use Rattle.ir_within.proofs.seen.outputs_of.Given as goal

abbrev pub invariant-loop-thread : goal.invariant-loop-thread
invariant-loop-thread l = map (λ w. w.items) l.outputs.items ≡ map (λ x. x.output) (take l.thread-index l.threads)
