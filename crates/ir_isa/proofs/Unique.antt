-- No word has two instructions.
use Rattle.std.proofs.Common.{◌≡◌, ℕ, refl, sym, ◌∙◌, arith}
use Rattle.std.proofs.Common.{◌<◌, ◌^◌, ◌+◌, ◌*◌}
use Rattle.std.proofs.lemmas.Int.{ints}
use Rattle.ir_isa.specs.Fields.{bits, sign_extended}
use Rattle.ir_isa.specs.Code.{IsCode, shift_functs}
use Rattle.ir_isa.specs.Rows.{imm_funct}
use Rattle.ir_isa.specs.declared.inst.Inst.{Inst}
use Rattle.ir_isa.specs.declared.inst.Inst.TheVariants.{Lui, Auipc, Jal, Jalr, Branch, Load, Store, OpImm, Shift, Op, Fence, Ecall, Ebreak}
use Rattle.ir_isa.specs.declared.inst.ImmediateOp.{ImmediateOp}
use Rattle.ir_isa.specs.declared.inst.ImmediateOp.TheVariants.{Addi, Slti, Sltiu, Xori, Ori, Andi}
use Rattle.ir_isa.specs.declared.inst.ShiftOp.{ShiftOp}
use Rattle.ir_isa.specs.declared.inst.ShiftOp.TheVariants.{Slli, Srli, Srai}
use Rattle.ir_isa.proofs.Split.{word_is_sum_of_fields}
use Rattle.ir_isa.proofs.Same.{registers_equal, immediates_equal, branch_offsets_equal, jump_offsets_equal, upper_immediates_equal, shift_amounts_equal}
use Rattle.ir_isa.proofs.RowLaws.{branch_funct_injective, load_funct_is_injective, store_funct_injective, imm_funct_is_injective, shift_functs_injective, reg_functs_injective}

-- the opcode of an instruction
opcode_of : Inst → ℕ
opcode_of (Lui rd imm) = 0b0110111
opcode_of (Auipc rd imm) = 0b0010111
opcode_of (Jal rd offset) = 0b1101111
opcode_of (Jalr rd rs1 imm) = 0b1100111
opcode_of (Branch op rs1 rs2 offset) = 0b1100011
opcode_of (Load op rd rs1 imm) = 0b0000011
opcode_of (Store op rs1 rs2 imm) = 0b0100011
opcode_of (OpImm op rd rs1 imm) = 0b0010011
opcode_of (Shift op rd rs1 amount) = 0b0010011
opcode_of (Op op rd rs1 rs2) = 0b0110011
opcode_of (Fence rd rs1 imm) = 0b0001111
opcode_of Ecall = 0b1110011
opcode_of Ebreak = 0b1110011

shift_funct_not_immediate : (s : ShiftOp) (o : ImmediateOp) → (shift_functs s).three ≡ imm_funct o → ⊥
shift_funct_not_immediate Slli Addi e = absurd cc
shift_funct_not_immediate Slli Slti e = absurd cc
shift_funct_not_immediate Slli Sltiu e = absurd cc
shift_funct_not_immediate Slli Xori e = absurd cc
shift_funct_not_immediate Slli Ori e = absurd cc
shift_funct_not_immediate Slli Andi e = absurd cc
shift_funct_not_immediate Srli Addi e = absurd cc
shift_funct_not_immediate Srli Slti e = absurd cc
shift_funct_not_immediate Srli Sltiu e = absurd cc
shift_funct_not_immediate Srli Xori e = absurd cc
shift_funct_not_immediate Srli Ori e = absurd cc
shift_funct_not_immediate Srli Andi e = absurd cc
shift_funct_not_immediate Srai Addi e = absurd cc
shift_funct_not_immediate Srai Slti e = absurd cc
shift_funct_not_immediate Srai Sltiu e = absurd cc
shift_funct_not_immediate Srai Xori e = absurd cc
shift_funct_not_immediate Srai Ori e = absurd cc
shift_funct_not_immediate Srai Andi e = absurd cc

pub word_has_one_instruction : (word : ℕ) (i j : Inst) → IsCode word i → IsCode word j → i ≡ j
word_has_one_instruction word (Lui rd imm) (Lui rd' imm') p q =
    let a = registers_equal rd rd' (sym p.rd_field ∙ q.rd_field) in
    let b = upper_immediates_equal imm imm' (sym p.imm_field ∙ q.imm_field) in
    cc
word_has_one_instruction word (Auipc rd imm) (Auipc rd' imm') p q =
    let a = registers_equal rd rd' (sym p.rd_field ∙ q.rd_field) in
    let b = upper_immediates_equal imm imm' (sym p.imm_field ∙ q.imm_field) in
    cc
word_has_one_instruction word (Jal rd offset) (Jal rd' offset') p q =
    let a = registers_equal rd rd' (sym p.rd_field ∙ q.rd_field) in
    let b = jump_offsets_equal offset offset' (sym p.imm_field ∙ q.imm_field) in
    cc
word_has_one_instruction word (Jalr rd rs1 imm) (Jalr rd' rs1' imm') p q =
    let a = registers_equal rd rd' (sym p.rd_field ∙ q.rd_field) in
    let b = registers_equal rs1 rs1' (sym p.rs1_field ∙ q.rs1_field) in
    let c = immediates_equal imm imm' (sym p.imm_field ∙ q.imm_field) in
    cc
word_has_one_instruction word (Branch op rs1 rs2 offset) (Branch op' rs1' rs2' offset') p q =
    let a = registers_equal rs1 rs1' (sym p.rs1_field ∙ q.rs1_field) in
    let b = registers_equal rs2 rs2' (sym p.rs2_field ∙ q.rs2_field) in
    let c = branch_offsets_equal offset offset' (sym p.imm_field ∙ q.imm_field) in
    let d = branch_funct_injective op op' (sym p.three_field ∙ q.three_field) in
    cc
word_has_one_instruction word (Load op rd rs1 imm) (Load op' rd' rs1' imm') p q =
    let a = registers_equal rd rd' (sym p.rd_field ∙ q.rd_field) in
    let b = registers_equal rs1 rs1' (sym p.rs1_field ∙ q.rs1_field) in
    let c = immediates_equal imm imm' (sym p.imm_field ∙ q.imm_field) in
    let d = load_funct_is_injective op op' (sym p.three_field ∙ q.three_field) in
    cc
word_has_one_instruction word (Store op rs1 rs2 imm) (Store op' rs1' rs2' imm') p q =
    let a = registers_equal rs1 rs1' (sym p.rs1_field ∙ q.rs1_field) in
    let b = registers_equal rs2 rs2' (sym p.rs2_field ∙ q.rs2_field) in
    let c = immediates_equal imm imm' (sym p.imm_field ∙ q.imm_field) in
    let d = store_funct_injective op op' (sym p.three_field ∙ q.three_field) in
    cc
word_has_one_instruction word (OpImm op rd rs1 imm) (OpImm op' rd' rs1' imm') p q =
    let a = registers_equal rd rd' (sym p.rd_field ∙ q.rd_field) in
    let b = registers_equal rs1 rs1' (sym p.rs1_field ∙ q.rs1_field) in
    let c = immediates_equal imm imm' (sym p.imm_field ∙ q.imm_field) in
    let d = imm_funct_is_injective op op' (sym p.three_field ∙ q.three_field) in
    cc
word_has_one_instruction word (Shift op rd rs1 amount) (Shift op' rd' rs1' amount') p q =
    let a = registers_equal rd rd' (sym p.rd_field ∙ q.rd_field) in
    let b = registers_equal rs1 rs1' (sym p.rs1_field ∙ q.rs1_field) in
    let c = shift_amounts_equal amount amount' (sym p.rs2_field ∙ q.rs2_field) in
    let d = shift_functs_injective op op' (sym p.seven_field ∙ q.seven_field) (sym p.three_field ∙ q.three_field) in
    cc
word_has_one_instruction word (Op op rd rs1 rs2) (Op op' rd' rs1' rs2') p q =
    let a = registers_equal rd rd' (sym p.rd_field ∙ q.rd_field) in
    let b = registers_equal rs1 rs1' (sym p.rs1_field ∙ q.rs1_field) in
    let c = registers_equal rs2 rs2' (sym p.rs2_field ∙ q.rs2_field) in
    let d = reg_functs_injective op op' (sym p.seven_field ∙ q.seven_field) (sym p.three_field ∙ q.three_field) in
    cc
word_has_one_instruction word (Fence rd rs1 imm) (Fence rd' rs1' imm') p q =
    let a = registers_equal rd rd' (sym p.rd_field ∙ q.rd_field) in
    let b = registers_equal rs1 rs1' (sym p.rs1_field ∙ q.rs1_field) in
    let c = immediates_equal imm imm' (sym p.imm_field ∙ q.imm_field) in
    cc
word_has_one_instruction word Ecall Ecall p q = refl
word_has_one_instruction word Ebreak Ebreak p q = refl
word_has_one_instruction word (OpImm op rd rs1 imm) (Shift op' rd' rs1' amount) p q = absurd (shift_funct_not_immediate op' op (sym q.three_field ∙ p.three_field))
word_has_one_instruction word (Shift op rd rs1 amount) (OpImm op' rd' rs1' imm) p q = absurd (shift_funct_not_immediate op op' (sym p.three_field ∙ q.three_field))
word_has_one_instruction word i j p q = absurd (omega arith)

-- a number of w bits is what it is sign-extended to
pub extended_12_injective : (m n : ℕ) → m < 2 ^ 12 → n < 2 ^ 12 → sign_extended 12 m ≡ sign_extended 12 n → m ≡ n
extended_12_injective m n a b e = grind (arith, ints)

pub extended_13_injective : (m n : ℕ) → m < 2 ^ 13 → n < 2 ^ 13 → sign_extended 13 m ≡ sign_extended 13 n → m ≡ n
extended_13_injective m n a b e = grind (arith, ints)

pub extended_21_injective : (m n : ℕ) → m < 2 ^ 21 → n < 2 ^ 21 → sign_extended 21 m ≡ sign_extended 21 n → m ≡ n
extended_21_injective m n a b e = grind (arith, ints)

abbrev branch_offset_bits : ℕ → ℕ
branch_offset_bits word = 2 ^ 12 * bits 31 31 word + 2 ^ 11 * bits 7 7 word + 2 ^ 5 * bits 30 25 word + 2 * bits 11 8 word

high_offset_bits_equal : (v w : ℕ) → branch_offset_bits v ≡ branch_offset_bits w → bits 31 25 v ≡ bits 31 25 w
high_offset_bits_equal v w e = omega arith

low_offset_bits_equal : (v w : ℕ) → branch_offset_bits v ≡ branch_offset_bits w → bits 11 7 v ≡ bits 11 7 w
low_offset_bits_equal v w e = omega arith

-- words of 32 bits with one instruction are one word
pub instruction_has_one_word : (v w : ℕ) (i : Inst) → v < 2 ^ 32 → w < 2 ^ 32 → IsCode v i → IsCode w i → v ≡ w
instruction_has_one_word v w (Lui rd imm) a b p q = omega arith
instruction_has_one_word v w (Auipc rd imm) a b p q = omega arith
instruction_has_one_word v w (Jal rd offset) a b p q =
    let e = extended_21_injective _ _ (omega arith) (omega arith) (p.imm_field ∙ sym q.imm_field) in omega arith
instruction_has_one_word v w (Jalr rd rs1 imm) a b p q =
    let e = extended_12_injective _ _ (omega arith) (omega arith) (p.imm_field ∙ sym q.imm_field) in omega arith
instruction_has_one_word v w (Branch op rs1 rs2 offset) a b p q =
    let e = extended_13_injective _ _ (omega arith) (omega arith) (p.imm_field ∙ sym q.imm_field) in
    let high = high_offset_bits_equal v w e in
    let low = low_offset_bits_equal v w e in
    let two : bits 24 20 v ≡ bits 24 20 w = p.rs2_field ∙ sym q.rs2_field in
    let one : bits 19 15 v ≡ bits 19 15 w = p.rs1_field ∙ sym q.rs1_field in
    let three : bits 14 12 v ≡ bits 14 12 w = p.three_field ∙ sym q.three_field in
    let code : bits 6 0 v ≡ bits 6 0 w = p.opcode_field ∙ sym q.opcode_field in
    word_is_sum_of_fields v a ∙ rw (high, two, one, three, low, code) (sym (word_is_sum_of_fields w b))
instruction_has_one_word v w (Load op rd rs1 imm) a b p q =
    let e = extended_12_injective _ _ (omega arith) (omega arith) (p.imm_field ∙ sym q.imm_field) in omega arith
instruction_has_one_word v w (Store op rs1 rs2 imm) a b p q =
    let e = extended_12_injective _ _ (omega arith) (omega arith) (p.imm_field ∙ sym q.imm_field) in omega arith
instruction_has_one_word v w (OpImm op rd rs1 imm) a b p q =
    let e = extended_12_injective _ _ (omega arith) (omega arith) (p.imm_field ∙ sym q.imm_field) in omega arith
instruction_has_one_word v w (Shift op rd rs1 amount) a b p q = omega arith
instruction_has_one_word v w (Op op rd rs1 rs2) a b p q = omega arith
instruction_has_one_word v w (Fence rd rs1 imm) a b p q =
    let e = extended_12_injective _ _ (omega arith) (omega arith) (p.imm_field ∙ sym q.imm_field) in omega arith
instruction_has_one_word v w Ecall a b p q = p ∙ sym q
instruction_has_one_word v w Ebreak a b p q = p ∙ sym q
