use Rattle.std.proofs.Common.{◌≡◌, length}
use Rattle.std.specs.Prelude.{map}
use Rattle.ir_asm.specs.Text.{split, trim}
use Rattle.ir_asm.specs.Source.{all_but_last, with_labels}
use Rattle.ir_asm.proofs.first_pass.with_labels.Given as goal

-- the labels that are left
abbrev pub invariant-loop-label : goal.invariant-loop-label
invariant-loop-label l = with_labels (map trim (all_but_last (split 58 l.rest))) l.scan ≡ with_labels
    (map trim (all_but_last (split 58 l.fn.text))) l.fn.scan

abbrev pub decreases-loop-label : goal.decreases-loop-label
decreases-loop-label l = length l.rest
