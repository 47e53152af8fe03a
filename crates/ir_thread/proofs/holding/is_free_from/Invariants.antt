use Rattle.std.proofs.Common.{◌≡◌, ◌<◌, ◌≤◌, ℕ, None}
use Rattle.ir_thread.specs.State.{held_at}
use Rattle.ir_thread.proofs.holding.is_free_from.Given as goal

abbrev pub invariant-loop-number : goal.invariant-loop-number
invariant-loop-number l = (i : ℕ) → l.object ≤ i → i < l.number → held_at l.held i ≡ None
