-- What a box needs ends left of where it starts.
use Rattle.std.proofs.Common.{◌≡◌, ℕ, List, Some, inr, refl}
use Rattle.std.specs.List.{slice_get}
use Rattle.ir_trace.specs.Recorded.{Recorded}
use Rattle.ir_picture.specs.Places.{NeedsBox, EndsBefore, PlacedNeedsAreLeft}
use Rattle.ir_picture.specs.declared.placed_box.Point.{Point}
use Rattle.ir_picture.specs.declared.placed_box.PlacedBox.{PlacedBox}

-- the end of a box that b needs is one of those before which b doesn't start
needed_end_before_needing : (r : Recorded) (boxes : List PlacedBox) (number : Point → ℕ) (k : ℕ) (a b : PlacedBox) → slice_get boxes k ≡ Some a
    → NeedsBox r b.events a.events → EndsBefore r boxes number b (number a.end)
needed_end_before_needing r boxes number k a b there needs = inr (record { at = k; box = a; there = there; needs = needs; ends = refl })

pub needs_placed_to_left : PlacedNeedsAreLeft
needs_placed_to_left r boxes ends all k m a b at_k at_m needs = (
  (all.placed m b at_m).start_x.above a.end.x (needed_end_before_needing r boxes (λ p. p.x) k a b at_k needs),
  (all.placed m b at_m).start_u.above a.end.u (needed_end_before_needing r boxes (λ p. p.u) k a b at_k needs),
)
