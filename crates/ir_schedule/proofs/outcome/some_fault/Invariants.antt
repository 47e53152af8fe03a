use Rattle.std.proofs.Common.{◌≡◌, drop, map}
use Rattle.ir_thread.specs.State.{ThreadState}
use Rattle.ir_schedule.specs.Conditions.{some_is, is_fault}
use Rattle.ir_schedule.proofs.outcome.some_fault.Given as goal

abbrev pub invariant-threads : goal.invariant-threads
invariant-threads l = some_is is_fault (map (λ (x : ThreadState). x.ended) (drop l.thread-index l.threads)) ≡ some_is is_fault (map (λ (x : ThreadState). x.ended) l.threads)
