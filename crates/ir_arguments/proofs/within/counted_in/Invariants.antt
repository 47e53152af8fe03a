use Rattle.std.proofs.Common.{◌≡◌}
use Rattle.std.specs.Prelude.{◌==◌}
use Rattle.std.specs.List.{slice_split}
use Rattle.ir_arguments.specs.Exploring.{nothing_taken, with_parts}
use Rattle.ir_arguments.specs.Views.{taken_view}
use Rattle.ir_arguments.proofs.Numbers.{bytes_left, left_parts}
use Rattle.ir_arguments.proofs.within.counted_in.Given as goal

-- what was taken and what is left come to what the text does
abbrev pub invariant-parts : goal.invariant-parts
invariant-parts l = with_parts nothing_taken (slice_split (λ b. b == 44) l.fn.text) ≡ with_parts (taken_view l.taken) (left_parts l.rest)

abbrev pub decreases-parts : goal.decreases-parts
decreases-parts l = bytes_left l.rest
