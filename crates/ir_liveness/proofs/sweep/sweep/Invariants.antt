use Rattle.std.proofs.Common.{◌≡◌, ◌≤◌, ◌+◌, ◌<◌, length}
use Rattle.ir_liveness.specs.Marks.{IsSwept, places_of_word}
use Rattle.ir_liveness.proofs.sweep.sweep.Given as goal

abbrev pub invariant-loop-k : goal.invariant-loop-k
invariant-loop-k l = record {
  size : length l.marks ≡ length l.fn.marks;
  swept : IsSwept l.code l.fn.marks l.marks l.changed (λ w p. (l.words ≤ w + l.k) × (w < l.words) × (p < places_of_word));
}
