use Rattle.std.proofs.Common.{◌≡◌, take, map}
use Rattle.ir_within.proofs.seen.ends_of.Given as goal

abbrev pub invariant-loop-thread : goal.invariant-loop-thread
invariant-loop-thread l = map (λ e. e.ended) l.ends.items ≡ map (λ x. x.ended) (take l.thread-index l.threads)
