use Rattle.std.proofs.Common.{◌≡◌, ℕ, Bool, ◌<◌, Some}
use Rattle.ir_search.specs.Following.{IsNodeOpen}
use Rattle.ir_search.proofs.ways.is_before.Given as goal

abbrev pub invariant-loop-thread : goal.invariant-loop-thread
invariant-loop-thread g l = (t : ℕ) (refused : Bool) (w : ℕ) → t < l.thread → (g.S.Successors.shape l.graph).noted t refused l.node ≡ Some (Some w) → IsNodeOpen l.marks w → ⊥
