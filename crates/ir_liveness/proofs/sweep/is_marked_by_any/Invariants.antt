use Rattle.std.proofs.Common.{◌≡◌, ◌<◌, ℕ, true}
use Rattle.ir_liveness.specs.Table.{is_marked}
use Rattle.ir_liveness.specs.Ways.{LeadsToWord}
use Rattle.ir_liveness.proofs.sweep.is_marked_by_any.Given as goal

abbrev pub invariant-loop-number : goal.invariant-loop-number
invariant-loop-number l = (number next : ℕ) → number < l.number → LeadsToWord l.way next → is_marked l.marks (record { pc = next; number = number }) l.register ≡ true → ⊥
