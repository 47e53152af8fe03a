use Rattle.std.proofs.Common.{◌≡◌, ◌++◌, ◌*◌, drop}
use Rattle.ir_checkpoint.specs.Store.{in_force, stored_threads}
use Rattle.ir_checkpoint.proofs.store.threads_at.Given as goal

abbrev pub invariant-loop-t : goal.invariant-loop-t
invariant-loop-t l = l.threads.items ++ stored_threads (drop l.t l.frames) (drop (16 * l.t) (in_force l.entries)) ≡ stored_threads l.frames (in_force l.entries)
