use Rattle.std.proofs.Common.{◌≡◌, length}
use Rattle.ir_fit.specs.Listed.{AreSame}
use Rattle.ir_fit.proofs.visits.reach.Given as goal

abbrev pub invariant-loop-next : goal.invariant-loop-next
invariant-loop-next l = AreSame l.fn.lists.items l.lists.items × (length l.lists.items ≡ l.next)
