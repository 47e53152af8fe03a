use Rattle.ir_asm.proofs.Cuts.{split_has_more_parts}
use Rattle.ir_asm.proofs.operand.only_part.Goals as goal

pub returns-in_default-Some : goal.returns-in_default-Some
returns-in_default-Some c =
    let parts = rw c.in_default-Some.is-1 at c.first_part.ensures.parts in
    λ p one. split_has_more_parts c.args.byte c.args.text.now _ c.in_default-Some.field-0-1.now parts p one
