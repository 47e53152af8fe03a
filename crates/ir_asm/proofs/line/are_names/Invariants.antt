use Rattle.std.proofs.Common.{◌≡◌, length}
use Rattle.std.specs.Prelude.{map}
use Rattle.std.specs.List.{list_all}
use Rattle.ir_asm.specs.Text.{is_source_name, split, trim}
use Rattle.ir_asm.specs.Source.{all_but_last}
use Rattle.ir_asm.proofs.line.are_names.Given as goal

-- what is left decides
abbrev pub invariant-loop-label : goal.invariant-loop-label
invariant-loop-label l = list_all is_source_name (map trim (all_but_last (split 58 l.rest))) ≡ list_all is_source_name
    (map trim (all_but_last (split 58 l.fn.text)))

abbrev pub decreases-loop-label : goal.decreases-loop-label
decreases-loop-label l = length l.rest
