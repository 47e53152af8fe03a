use Rattle.std.proofs.Common.{◌++◌, List, ℕ, sym, ap, ◌∙◌, append_assoc, arith}
use Rattle.std.proofs.lemmas.List.{append-nil}
use Rattle.ir_text.specs.Texts.{registers_text}
use Rattle.ir_text.specs.Parts.{register_text}
use Rattle.ir_text.proofs.RegisterNames.{registers_text_step, registers_text_of_none}
use Rattle.ir_text.proofs.text.put_registers.Goals as goal

pub loop-number-init : goal.loop-number-init
loop-number-init c = record {
  text = sym (ap (λ (t : List ℕ). c.args.text.now.items ++ t) (registers_text_of_none c.args.mach.now) ∙ append-nil c.args.text.now.items);
  len = omega arith;
}

pub loop-number-preserved : goal.loop-number-preserved
loop-number-preserved c = record {
  text = c.put_register.ensures.text ∙ ap (λ (t : List ℕ). t ++ register_text c.args.mach.now c.loop-number.number)
      c.loop-number.invariant.text ∙ append_assoc c.args.text.now.items (registers_text c.args.mach.now c.loop-number.number)
      (register_text c.args.mach.now c.loop-number.number)
      ∙ ap (λ (t : List ℕ). c.args.text.now.items ++ t) (sym (registers_text_step c.args.mach.now c.loop-number.number));
  len = omega arith;
}
