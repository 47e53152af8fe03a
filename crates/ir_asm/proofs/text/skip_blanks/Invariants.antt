use Rattle.std.proofs.Common.{◌≡◌, length}
use Rattle.ir_asm.specs.Text.{skip_source_blanks}
use Rattle.ir_asm.proofs.text.skip_blanks.Given as goal

abbrev pub invariant-loop-rest : goal.invariant-loop-rest
invariant-loop-rest l = skip_source_blanks l.rest ≡ skip_source_blanks l.fn.text

abbrev pub decreases-loop-rest : goal.decreases-loop-rest
decreases-loop-rest l = length l.rest
