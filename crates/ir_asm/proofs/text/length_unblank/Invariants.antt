use Rattle.std.proofs.Common.{◌≡◌, ℕ, ◌<◌, get_or, false}
use Rattle.ir_asm.specs.Text.{is_source_blank}
use Rattle.ir_asm.proofs.text.length_unblank.Given as goal

-- none of the bytes before is the one that is looked for
abbrev pub invariant-loop-index : goal.invariant-loop-index
invariant-loop-index l = (k : ℕ) → k < l.index → is_source_blank (get_or l.text k 0) ≡ false
