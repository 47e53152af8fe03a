use Rattle.std.proofs.Common.{◌++◌, ℕ, ◌-◌, List, ap, sym, ◌∙◌, append_assoc, arith}
use Rattle.std.specs.String.{string_bytes}
use Rattle.ir_disasm.specs.Printed.{hex}
use Rattle.ir_disasm.proofs.Digits.{hex_by_first_digit}
use Rattle.ir_disasm.proofs.disassembler.digits.Goals as goal

pub loop-left-preserved : goal.loop-left-preserved
loop-left-preserved c =
    let rest : List ℕ = hex (c.loop-left.left - 1) c.args.number in
    record {
      few = omega arith;
      emitted = ap (λ (l : List ℕ). l ++ rest) (c.in_ok-push_str.ensures.bytes
          ∙ ap (λ (l : List ℕ). string_bytes c.loop-left.text ++ l) c.digit_at.ensures)
          ∙ append_assoc _ _ rest
          ∙ ap (λ (l : List ℕ). string_bytes c.loop-left.text ++ l) (sym (hex_by_first_digit c.loop-left.left c.args.number (omega arith)))
          ∙ c.loop-left.invariant.emitted;
    }
