use Rattle.std.proofs.Common.{◌≡◌, take}
use Rattle.ir_flat.proofs.parts.Parts.copy.Given as goal

abbrev pub invariant-loop-thread : goal.invariant-loop-thread
invariant-loop-thread l = l.threads.items ≡ take l.thread-index l.self.threads
