use Rattle.std.proofs.Common.{◌≡◌, ◌+◌, ◌*◌, ◌<◌, ℕ, List, length}
use Rattle.ir_image.specs.Guest.{fetched, code_start}
use Rattle.ir_image.specs.declared.fetched.Fetched.TheVariants.{Found}
use Rattle.ir_liveness.specs.Marks.{IsSwept}
use Rattle.ir_liveness.proofs.sweep.sweep_places.Given as goal

abbrev pub invariant-loop-place : goal.invariant-loop-place
invariant-loop-place l = record {
  size : length l.marks ≡ length l.fn.marks;
  swept : (code : List ℕ) → fetched code (code_start + 4 * l.word) ≡ Found l.inst → IsSwept code l.fn.marks l.marks l.any (λ w p. (w ≡ l.word) × (p < l.place));
}
