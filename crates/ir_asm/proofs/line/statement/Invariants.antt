use Rattle.std.proofs.Common.{◌≡◌, length}
use Rattle.ir_asm.specs.Text.{split}
use Rattle.ir_asm.specs.Source.{last_segment}
use Rattle.ir_asm.proofs.line.statement.Given as goal

-- the last part stays
abbrev pub invariant-loop-tail : goal.invariant-loop-tail
invariant-loop-tail l = last_segment (split 58 l.rest) ≡ last_segment (split 58 l.fn.text)

abbrev pub decreases-loop-tail : goal.decreases-loop-tail
decreases-loop-tail l = length l.rest
