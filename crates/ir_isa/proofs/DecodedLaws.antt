-- The instruction of a word is the one whose code it is.
use Rattle.std.proofs.Common.{◌≡◌, ℕ, Bool, true, false, cond, eqb, Option, Some, None, Result, Ok, Err, refl, sym, ap, subst, ◌∙◌}
use Rattle.std.specs.Prelude.{◌&&◌, option_and_then, IfOk, IfErr}
use Rattle.std.specs.Result.{result_ok}
use Rattle.std.proofs.lemmas.Bool.{and_parts, eqb-true}
use Rattle.std.proofs.lemmas.Option.{same_Some, option_and_then_some}
use Rattle.ir_isa.specs.Fields.{bits}
use Rattle.ir_isa.specs.Code.{IsCode, shift_functs}
use Rattle.ir_isa.specs.Rows.{branch_op_of, load_op_of, store_op_of, imm_op_of, shift_op_of, reg_op_of}
use Rattle.ir_isa.specs.Decoded.{reg_at, amount_at, i_of, s_of, b_of, j_of, u_of, of_imm, instruction_of}
use Rattle.ir_isa.specs.declared.decoder.Illegal.{Illegal}
use Rattle.ir_isa.specs.declared.inst.ShiftOp.{ShiftOp}
use Rattle.ir_isa.specs.declared.inst.ShiftOp.TheVariants.{Slli, Srli, Srai}
use Rattle.ir_isa.specs.declared.inst.ImmediateOp.{ImmediateOp}
use Rattle.ir_isa.specs.declared.inst.Inst.{Inst}
use Rattle.ir_isa.specs.declared.inst.Inst.TheVariants.{Lui, Auipc, Jal, Jalr, Branch, Load, Store, OpImm, Shift, Op, Fence, Ecall, Ebreak}
use Rattle.ir_isa.proofs.Same.{registers_equal, immediates_equal, branch_offsets_equal, jump_offsets_equal, upper_immediates_equal, shift_amounts_equal}
use Rattle.ir_isa.proofs.Unique.{word_has_one_instruction}
use Rattle.ir_isa.proofs.RowLaws.{branch_op_of_own_funct, load_op_of_own_funct, store_op_of_own_funct, imm_op_of_own_funct}
use Rattle.ir_isa.proofs.RowLaws.{shift_op_of_own_functs, reg_op_of_own_functs, branch_funct_found, load_funct_of_found_op}
use Rattle.ir_isa.proofs.RowLaws.{store_funct_of_found_op, imm_funct_of_found_op, shift_functs_found, reg_functs_of_found_op}

-- of_imm, once the operation is looked up
abbrev immediate_instruction_by : ℕ → Option ImmediateOp → Option Inst
immediate_instruction_by w o = elim o as (λ _. Option Inst) [
  | Some op ↦ Some (OpImm op (reg_at 7 w) (reg_at 15 w) (i_of w))
  | None ↦ option_and_then (λ op. Some (Shift op (reg_at 7 w) (reg_at 15 w) (amount_at w))) (shift_op_of (bits 31 25 w) (bits 14 12 w))
]

imm_op-shift_funct : (op : ShiftOp) → imm_op_of (shift_functs op).three ≡ None
imm_op-shift_funct Slli = refl
imm_op-shift_funct Srli = refl
imm_op-shift_funct Srai = refl

pub code_gives_instruction : (w : ℕ) (i : Inst) → IsCode w i → instruction_of w ≡ Some i
unfolding instruction_of
code_gives_instruction w (Lui rd imm) p =
    let e0 = registers_equal (reg_at 7 w) rd p.rd_field in
    let e1 = upper_immediates_equal (u_of w) imm p.imm_field in
    rw p.opcode_field (cc)
code_gives_instruction w (Auipc rd imm) p =
    let e0 = registers_equal (reg_at 7 w) rd p.rd_field in
    let e1 = upper_immediates_equal (u_of w) imm p.imm_field in
    rw p.opcode_field (cc)
code_gives_instruction w (Jal rd offset) p =
    let e0 = registers_equal (reg_at 7 w) rd p.rd_field in
    let e1 = jump_offsets_equal (j_of w) offset p.imm_field in
    rw p.opcode_field (cc)
code_gives_instruction w (Jalr rd rs1 imm) p =
    let e0 = registers_equal (reg_at 7 w) rd p.rd_field in
    let e1 = registers_equal (reg_at 15 w) rs1 p.rs1_field in
    let e2 = immediates_equal (i_of w) imm p.imm_field in
    rw (p.opcode_field, p.three_field) (cc)
code_gives_instruction w (Branch op rs1 rs2 offset) p =
    let e0 = registers_equal (reg_at 15 w) rs1 p.rs1_field in
    let e1 = registers_equal (reg_at 20 w) rs2 p.rs2_field in
    let e2 = branch_offsets_equal (b_of w) offset p.imm_field in
    rw (p.opcode_field, p.three_field, branch_op_of_own_funct op) (cc)
code_gives_instruction w (Load op rd rs1 imm) p =
    let e0 = registers_equal (reg_at 7 w) rd p.rd_field in
    let e1 = registers_equal (reg_at 15 w) rs1 p.rs1_field in
    let e2 = immediates_equal (i_of w) imm p.imm_field in
    rw (p.opcode_field, p.three_field, load_op_of_own_funct op) (cc)
code_gives_instruction w (Store op rs1 rs2 imm) p =
    let e0 = registers_equal (reg_at 15 w) rs1 p.rs1_field in
    let e1 = registers_equal (reg_at 20 w) rs2 p.rs2_field in
    let e2 = immediates_equal (s_of w) imm p.imm_field in
    rw (p.opcode_field, p.three_field, store_op_of_own_funct op) (cc)
code_gives_instruction w (Op op rd rs1 rs2) p =
    let e0 = registers_equal (reg_at 7 w) rd p.rd_field in
    let e1 = registers_equal (reg_at 15 w) rs1 p.rs1_field in
    let e2 = registers_equal (reg_at 20 w) rs2 p.rs2_field in
    rw (p.opcode_field, p.seven_field, p.three_field, reg_op_of_own_functs op) (cc)
code_gives_instruction w (Fence rd rs1 imm) p =
    let e0 = registers_equal (reg_at 7 w) rd p.rd_field in
    let e1 = registers_equal (reg_at 15 w) rs1 p.rs1_field in
    let e2 = immediates_equal (i_of w) imm p.imm_field in
    rw (p.opcode_field, p.three_field) (cc)
code_gives_instruction w (OpImm op rd rs1 imm) p =
    let e0 = registers_equal (reg_at 7 w) rd p.rd_field in
    let e1 = registers_equal (reg_at 15 w) rs1 p.rs1_field in
    let e2 = immediates_equal (i_of w) imm p.imm_field in
    let same : Some (OpImm op (reg_at 7 w) (reg_at 15 w) (i_of w)) ≡ Some (OpImm op rd rs1 imm) = cc in
    rw p.opcode_field (ap (immediate_instruction_by w) (ap imm_op_of p.three_field ∙ imm_op_of_own_funct op) ∙ same)
code_gives_instruction w (Shift op rd rs1 amount) p =
    let e0 = registers_equal (reg_at 7 w) rd p.rd_field in
    let e1 = registers_equal (reg_at 15 w) rs1 p.rs1_field in
    let e2 = shift_amounts_equal (amount_at w) amount p.rs2_field in
    let same : Some (Shift op (reg_at 7 w) (reg_at 15 w) (amount_at w)) ≡ Some (Shift op rd rs1 amount) = cc in
    let row : shift_op_of (bits 31 25 w) (bits 14 12 w) ≡ Some op = ap (λ (n : ℕ). shift_op_of n (bits 14 12 w)) p.seven_field
    ∙ ap (shift_op_of (shift_functs op).seven) p.three_field ∙ shift_op_of_own_functs op in
    rw p.opcode_field (ap (immediate_instruction_by w) (ap imm_op_of p.three_field ∙ imm_op-shift_funct op)
    ∙ ap (option_and_then (λ op. Some (Shift op (reg_at 7 w) (reg_at 15 w) (amount_at w)))) row ∙ same)
code_gives_instruction w Ecall p = rw p refl
code_gives_instruction w Ebreak p = rw p refl

instruction_cases : {P : Type 0} (b : Bool) (x y : Option Inst) (i : Inst) → cond b x y ≡ Some i → (b ≡ true → x ≡ Some i → P)
    → (b ≡ false → y ≡ Some i → P) → P
instruction_cases true x y i e hit miss = hit refl e
instruction_cases false x y i e hit miss = miss refl e

code_of_equal : (w : ℕ) (i j : Inst) → Some i ≡ Some j → IsCode w i → IsCode w j
code_of_equal w i j e p = subst (λ (k : Inst). IsCode w k) (same_Some i j e) p

immediate_has_code : (w : ℕ) (i : Inst) (o : Option ImmediateOp) → imm_op_of (bits 14 12 w) ≡ o → bits 6 0 w ≡ 19 → immediate_instruction_by w o ≡ Some i
    → IsCode w i
immediate_has_code w i (Some op) o t e =
    code_of_equal w (OpImm op (reg_at 7 w) (reg_at 15 w) (i_of w)) i e
    (record { imm_field = refl; rs1_field = refl; three_field = sym (imm_funct_of_found_op (bits 14 12 w) op o); rd_field = refl; opcode_field = t })
immediate_has_code w i None o t e =
    option_and_then_some (λ op. Some (Shift op (reg_at 7 w) (reg_at 15 w) (amount_at w))) (shift_op_of (bits 31 25 w) (bits 14 12 w)) i e
    (λ op g h.
    let f = shift_functs_found (bits 31 25 w) (bits 14 12 w) op g in
    code_of_equal w (Shift op (reg_at 7 w) (reg_at 15 w) (amount_at w)) i h
    (record { seven_field = sym f.0; rs2_field = refl; rs1_field = refl; three_field = sym f.1; rd_field = refl; opcode_field = t }))

-- ---- the tests of instruction_of, each with those that follow it

abbrev instruction_from_ebreak_test : ℕ → Option Inst
instruction_from_ebreak_test w = cond (eqb w 0x00100073) (Some Ebreak) None

abbrev instruction_from_ecall_test : ℕ → Option Inst
instruction_from_ecall_test w = cond (eqb w 0x00000073) (Some Ecall) (instruction_from_ebreak_test w)

abbrev instruction_from_fence_test : ℕ → Option Inst
instruction_from_fence_test w = cond ((eqb (bits 6 0 w) 0b0001111) && (eqb (bits 14 12 w) 0)) (Some (Fence (reg_at 7 w) (reg_at 15 w) (i_of w)))
    (instruction_from_ecall_test w)

abbrev instruction_from_op_test : ℕ → Option Inst
instruction_from_op_test w = cond (eqb (bits 6 0 w) 0b0110011)
    (option_and_then (λ op. Some (Op op (reg_at 7 w) (reg_at 15 w) (reg_at 20 w))) (reg_op_of (bits 31 25 w) (bits 14 12 w)))
    (instruction_from_fence_test w)

abbrev instruction_from_immediate_test : ℕ → Option Inst
instruction_from_immediate_test w = cond (eqb (bits 6 0 w) 0b0010011) (of_imm w) (instruction_from_op_test w)

abbrev instruction_from_store_test : ℕ → Option Inst
instruction_from_store_test w = cond (eqb (bits 6 0 w) 0b0100011)
    (option_and_then (λ op. Some (Store op (reg_at 15 w) (reg_at 20 w) (s_of w))) (store_op_of (bits 14 12 w))) (instruction_from_immediate_test w)

abbrev instruction_from_load_test : ℕ → Option Inst
instruction_from_load_test w = cond (eqb (bits 6 0 w) 0b0000011)
    (option_and_then (λ op. Some (Load op (reg_at 7 w) (reg_at 15 w) (i_of w))) (load_op_of (bits 14 12 w))) (instruction_from_store_test w)

abbrev instruction_from_branch_test : ℕ → Option Inst
instruction_from_branch_test w = cond (eqb (bits 6 0 w) 0b1100011)
    (option_and_then (λ op. Some (Branch op (reg_at 15 w) (reg_at 20 w) (b_of w))) (branch_op_of (bits 14 12 w))) (instruction_from_load_test w)

abbrev instruction_from_jalr_test : ℕ → Option Inst
instruction_from_jalr_test w = cond ((eqb (bits 6 0 w) 0b1100111) && (eqb (bits 14 12 w) 0)) (Some (Jalr (reg_at 7 w) (reg_at 15 w) (i_of w)))
    (instruction_from_branch_test w)

abbrev instruction_from_jal_test : ℕ → Option Inst
instruction_from_jal_test w = cond (eqb (bits 6 0 w) 0b1101111) (Some (Jal (reg_at 7 w) (j_of w))) (instruction_from_jalr_test w)

abbrev instruction_from_auipc_test : ℕ → Option Inst
instruction_from_auipc_test w = cond (eqb (bits 6 0 w) 0b0010111) (Some (Auipc (reg_at 7 w) (u_of w))) (instruction_from_jal_test w)

pub instruction_has_code : (w : ℕ) (i : Inst) → instruction_of w ≡ Some i → IsCode w i
unfolding instruction_of
instruction_has_code w i e =
    instruction_cases (eqb (bits 6 0 w) 0b0110111) (Some (Lui (reg_at 7 w) (u_of w))) (instruction_from_auipc_test w) i e (λ t h.
    code_of_equal w (Lui (reg_at 7 w) (u_of w)) i h (record { imm_field = refl; rd_field = refl; opcode_field = eqb-true _ _ t })) (λ f0 e0.
    instruction_cases (eqb (bits 6 0 w) 0b0010111) (Some (Auipc (reg_at 7 w) (u_of w))) (instruction_from_jal_test w) i e0 (λ t h.
    code_of_equal w (Auipc (reg_at 7 w) (u_of w)) i h (record { imm_field = refl; rd_field = refl; opcode_field = eqb-true _ _ t })) (λ f1 e1.
    instruction_cases (eqb (bits 6 0 w) 0b1101111) (Some (Jal (reg_at 7 w) (j_of w))) (instruction_from_jalr_test w) i e1 (λ t h.
    code_of_equal w (Jal (reg_at 7 w) (j_of w)) i h (record { imm_field = refl; rd_field = refl; opcode_field = eqb-true _ _ t })) (λ f2 e2.
    instruction_cases ((eqb (bits 6 0 w) 0b1100111) && (eqb (bits 14 12 w) 0)) (Some (Jalr (reg_at 7 w) (reg_at 15 w) (i_of w))) (instruction_from_branch_test w) i e2
    (λ t h.
    let b = and_parts (eqb (bits 6 0 w) 0b1100111) (eqb (bits 14 12 w) 0) t in
    code_of_equal w (Jalr (reg_at 7 w) (reg_at 15 w) (i_of w)) i h
    (record { imm_field = refl; rs1_field = refl; three_field = eqb-true _ _ b.1; rd_field = refl; opcode_field = eqb-true _ _ b.0 }))
    (λ f3 e3.
    instruction_cases (eqb (bits 6 0 w) 0b1100011) (option_and_then (λ op. Some (Branch op (reg_at 15 w) (reg_at 20 w) (b_of w)))
    (branch_op_of (bits 14 12 w))) (instruction_from_load_test w) i e3 (λ t h.
    option_and_then_some (λ op. Some (Branch op (reg_at 15 w) (reg_at 20 w) (b_of w))) (branch_op_of (bits 14 12 w)) i h (λ op g k.
    code_of_equal w (Branch op (reg_at 15 w) (reg_at 20 w) (b_of w)) i k
    (record {
      imm_field = refl;
      rs2_field = refl;
      rs1_field = refl;
      three_field = sym (branch_funct_found (bits 14 12 w) op g);
      opcode_field =
          eqb-true _ _ t;
    }))) (λ f4 e4.
    instruction_cases (eqb (bits 6 0 w) 0b0000011) (option_and_then (λ op. Some (Load op (reg_at 7 w) (reg_at 15 w) (i_of w)))
    (load_op_of (bits 14 12 w))) (instruction_from_store_test w) i e4 (λ t h.
    option_and_then_some (λ op. Some (Load op (reg_at 7 w) (reg_at 15 w) (i_of w))) (load_op_of (bits 14 12 w)) i h (λ op g k.
    code_of_equal w (Load op (reg_at 7 w) (reg_at 15 w) (i_of w)) i k
    (record {
      imm_field = refl;
      rs1_field = refl;
      three_field = sym (load_funct_of_found_op (bits 14 12 w) op g);
      rd_field = refl;
      opcode_field =
          eqb-true _ _ t;
    }))) (λ f5 e5.
    instruction_cases (eqb (bits 6 0 w) 0b0100011) (option_and_then (λ op. Some (Store op (reg_at 15 w) (reg_at 20 w) (s_of w)))
    (store_op_of (bits 14 12 w))) (instruction_from_immediate_test w) i e5 (λ t h.
    option_and_then_some (λ op. Some (Store op (reg_at 15 w) (reg_at 20 w) (s_of w))) (store_op_of (bits 14 12 w)) i h (λ op g k.
    code_of_equal w (Store op (reg_at 15 w) (reg_at 20 w) (s_of w)) i k
    (record {
      imm_field = refl;
      rs2_field = refl;
      rs1_field = refl;
      three_field = sym (store_funct_of_found_op (bits 14 12 w) op g);
      opcode_field =
          eqb-true _ _ t;
    }))) (λ f6 e6.
    instruction_cases (eqb (bits 6 0 w) 0b0010011) (of_imm w) (instruction_from_op_test w) i e6 (λ t h.
    immediate_has_code w i (imm_op_of (bits 14 12 w)) refl (eqb-true _ _ t) h) (λ f7 e7.
    instruction_cases (eqb (bits 6 0 w) 0b0110011) (option_and_then (λ op. Some (Op op (reg_at 7 w) (reg_at 15 w) (reg_at 20 w)))
    (reg_op_of (bits 31 25 w) (bits 14 12 w))) (instruction_from_fence_test w) i e7 (λ t h.
    option_and_then_some (λ op. Some (Op op (reg_at 7 w) (reg_at 15 w) (reg_at 20 w))) (reg_op_of (bits 31 25 w) (bits 14 12 w)) i h
    (λ op g k.
    let f = reg_functs_of_found_op (bits 31 25 w) (bits 14 12 w) op g in
    code_of_equal w (Op op (reg_at 7 w) (reg_at 15 w) (reg_at 20 w)) i k
    (record {
      seven_field = sym f.0;
      rs2_field = refl;
      rs1_field = refl;
      three_field = sym f.1;
      rd_field = refl;
      opcode_field =
          eqb-true _ _ t;
    }))) (λ f8 e8.
    instruction_cases ((eqb (bits 6 0 w) 0b0001111) && (eqb (bits 14 12 w) 0)) (Some (Fence (reg_at 7 w) (reg_at 15 w) (i_of w))) (instruction_from_ecall_test w) i e8
    (λ t h.
    let b = and_parts (eqb (bits 6 0 w) 0b0001111) (eqb (bits 14 12 w) 0) t in
    code_of_equal w (Fence (reg_at 7 w) (reg_at 15 w) (i_of w)) i h
    (record { imm_field = refl; rs1_field = refl; three_field = eqb-true _ _ b.1; rd_field = refl; opcode_field = eqb-true _ _ b.0 }))
    (λ f9 e9.
    instruction_cases (eqb w 0x00000073) (Some Ecall) (instruction_from_ebreak_test w) i e9 (λ t h. code_of_equal w Ecall i h (eqb-true _ _ t)) (λ f10 e10.
    instruction_cases (eqb w 0x00100073) (Some Ebreak) None i e10 (λ t h. code_of_equal w Ebreak i h (eqb-true _ _ t)) (λ f11 e11.
    absurd cc))))))))))))

-- what a decoder answers that finds the instruction of a word, and refuses only a word without one
pub decoder_result_is_ok : (w : ℕ) (r : Result Inst Illegal) → IfOk r (λ i. IsCode w i) → IfErr r (λ _. (i : Inst) → IsCode w i → ⊥)
    → (i : Inst) → IsCode w i → r ≡ Ok i
decoder_result_is_ok w (Ok j) found illegal i code = ap (λ (k : Inst). Ok k) (word_has_one_instruction w j i found code)
decoder_result_is_ok w (Err d) found illegal i code = absurd (illegal i code)

-- what a decoder answers that finds the instruction of a word, and no other
pub decoder_result_agrees : (w : ℕ) (r : Result Inst Illegal) → IfOk r (λ i. IsCode w i) → ((i : Inst) → IsCode w i → r ≡ Ok i)
    → result_ok r ≡ instruction_of w
decoder_result_agrees w (Ok i) found only = sym (code_gives_instruction w i found)
decoder_result_agrees w (Err d) found only = none_case (instruction_of w) refl
  where
    none_case : (o : Option Inst) → instruction_of w ≡ o → None ≡ instruction_of w
    none_case None e = sym e
    none_case (Some i) e = let k = only i (instruction_has_code w i e) in absurd cc
