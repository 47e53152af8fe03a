use Rattle.std.proofs.Common.{◌∙◌, ap, ℤ, w32, rules}
use Rattle.std.proofs.lemmas.Int.{to_z-of_z}
use Rattle.ir_disasm.specs.Printed.{far}
use Rattle.ir_disasm.proofs.Digits.{far_text_of_parts}
use Rattle.ir_disasm.proofs.disassembler.far.Goals as goal

pub returns : goal.returns
returns c =
    far_text_of_parts _ _ _ _ _ _ c.in_ok-with_comment.ensures (c.deref.ensures ∙ c.in_ok-distance.ensures)
    (c.deref-2.ensures ∙ c.in_ok-address.ensures) c.target.ensures
    ∙ ap (λ (z : ℤ). far c.args.pc z) (to_z-of_z w32 c.args.offset (search rules))
