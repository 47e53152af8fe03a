-- The word of an instruction is the one whose code it is.
use Rattle.std.proofs.Common.{◌≡◌, ◌%◌, ◌<◌, ◌^◌, ℕ, refl, sym, ap, ◌∙◌, arith}
use Rattle.std.specs.Prelude.{ℤ, pos, negsuc, ◌≤ℤ◌}
use Rattle.std.proofs.lemmas.Int.{ints}
use Rattle.ir_isa.specs.Fields.{bits, sign_extended, low_bits}
use Rattle.ir_isa.specs.Even.{IsEven}
use Rattle.ir_isa.specs.Code.{IsCode, shift_functs, reg_functs}
use Rattle.ir_isa.specs.Rows.{branch_funct, load_funct, store_funct, imm_funct}
use Rattle.ir_isa.specs.Words.{word_of}
use Rattle.ir_isa.specs.Immediates.{field_s, field_b, field_j}
use Rattle.ir_isa.specs.Ranges.{fits_s, fits_b, fits_i, fits_j}
use Rattle.ir_isa.specs.declared.inst.Inst.{Inst}
use Rattle.ir_isa.specs.declared.inst.Inst.TheVariants.{Lui, Auipc, Jal, Jalr, Branch, Load, Store, OpImm, Shift, Op, Fence, Ecall, Ebreak}
use Rattle.ir_isa.specs.declared.inst.BranchOp.{BranchOp}
use Rattle.ir_isa.specs.declared.inst.BranchOp.TheVariants.{Beq, Bne, Blt, Bge, Bltu, Bgeu}
use Rattle.ir_isa.specs.declared.inst.LoadOp.{LoadOp}
use Rattle.ir_isa.specs.declared.inst.LoadOp.TheVariants.{Lb, Lh, Lw, Lbu, Lhu}
use Rattle.ir_isa.specs.declared.inst.StoreOp.{StoreOp}
use Rattle.ir_isa.specs.declared.inst.StoreOp.TheVariants.{Sb, Sh, Sw}
use Rattle.ir_isa.specs.declared.inst.ImmediateOp.{ImmediateOp}
use Rattle.ir_isa.specs.declared.inst.ImmediateOp.TheVariants.{Addi, Slti, Sltiu, Xori, Ori, Andi}
use Rattle.ir_isa.specs.declared.inst.ShiftOp.{ShiftOp}
use Rattle.ir_isa.specs.declared.inst.ShiftOp.TheVariants.{Slli, Srli, Srai}
use Rattle.ir_isa.specs.declared.inst.RegisterOp.{RegisterOp}
use Rattle.ir_isa.specs.declared.inst.RegisterOp.TheVariants.{Add, Sub, Sll, Slt, Sltu, Xor, Srl, Sra, Or, And, Mul, Mulh, Mulhsu, Mulhu, Div, Divu, Rem, Remu}

-- ---- the bits of a signed number, and back

low_bits-extended_12 : (n : ℕ) → n < 2 ^ 12 → low_bits 12 (sign_extended 12 n) ≡ n
low_bits-extended_12 n h = grind (arith, ints)

low_bits-extended_13 : (n : ℕ) → n < 2 ^ 13 → low_bits 13 (sign_extended 13 n) ≡ n
low_bits-extended_13 n h = grind (arith, ints)

low_bits-extended_21 : (n : ℕ) → n < 2 ^ 21 → low_bits 21 (sign_extended 21 n) ≡ n
low_bits-extended_21 n h = grind (arith, ints)

-- ---- a word with the code of an instruction is the instruction's word

pub word_of_code : (w : ℕ) (i : Inst) → w < 2 ^ 32 → IsCode w i → word_of i ≡ w
word_of_code w (Lui rd imm) fits h = omega (arith, fits, h.imm_field, h.rd_field, h.opcode_field)
word_of_code w (Auipc rd imm) fits h = omega (arith, fits, h.imm_field, h.rd_field, h.opcode_field)
word_of_code w (Jal rd imm) fits h =
    let l : low_bits 21 imm.value ≡ field_j w = ap (low_bits 21) (sym h.imm_field) ∙ low_bits-extended_21 (field_j w) (fits_j w) in
    omega (arith, fits, l, h.rd_field, h.opcode_field)
word_of_code w (Jalr rd rs1 imm) fits h =
    let l : low_bits 12 imm.value ≡ bits 31 20 w = ap (low_bits 12) (sym h.imm_field) ∙ low_bits-extended_12 (bits 31 20 w) (fits_i w) in
    omega (arith, fits, l, h.rs1_field, h.three_field, h.rd_field, h.opcode_field)
word_of_code w (Branch op rs1 rs2 imm) fits h =
    let l : low_bits 13 imm.value ≡ field_b w = ap (low_bits 13) (sym h.imm_field) ∙ low_bits-extended_13 (field_b w) (fits_b w) in
    omega (arith, fits, l, h.rs2_field, h.rs1_field, h.three_field, h.opcode_field)
word_of_code w (Load op rd rs1 imm) fits h =
    let l : low_bits 12 imm.value ≡ bits 31 20 w = ap (low_bits 12) (sym h.imm_field) ∙ low_bits-extended_12 (bits 31 20 w) (fits_i w) in
    omega (arith, fits, l, h.rs1_field, h.three_field, h.rd_field, h.opcode_field)
word_of_code w (Store op rs1 rs2 imm) fits h =
    let l : low_bits 12 imm.value ≡ field_s w = ap (low_bits 12) (sym h.imm_field) ∙ low_bits-extended_12 (field_s w) (fits_s w) in
    omega (arith, fits, l, h.rs2_field, h.rs1_field, h.three_field, h.opcode_field)
word_of_code w (OpImm op rd rs1 imm) fits h =
    let l : low_bits 12 imm.value ≡ bits 31 20 w = ap (low_bits 12) (sym h.imm_field) ∙ low_bits-extended_12 (bits 31 20 w) (fits_i w) in
    omega (arith, fits, l, h.rs1_field, h.three_field, h.rd_field, h.opcode_field)
word_of_code w (Shift op rd rs1 amount) fits h = omega (
  arith,
  fits,
  h.seven_field,
  h.rs2_field,
  h.rs1_field,
  h.three_field,
  h.rd_field,
  h.opcode_field,
)
word_of_code w (Op op rd rs1 rs2) fits h = omega (
  arith,
  fits,
  h.seven_field,
  h.rs2_field,
  h.rs1_field,
  h.three_field,
  h.rd_field,
  h.opcode_field,
)
word_of_code w (Fence rd rs1 imm) fits h =
    let l : low_bits 12 imm.value ≡ bits 31 20 w = ap (low_bits 12) (sym h.imm_field) ∙ low_bits-extended_12 (bits 31 20 w) (fits_i w) in
    omega (arith, fits, l, h.rs1_field, h.three_field, h.rd_field, h.opcode_field)
word_of_code w Ecall fits h = sym h
word_of_code w Ebreak fits h = sym h

-- ---- the word of an instruction has its code

pub extended-low_bits_12 : (z : ℤ) → negsuc 2047 ≤ℤ z → z ≤ℤ pos 2047 → sign_extended 12 (low_bits 12 z) ≡ z
extended-low_bits_12 z low high = grind (arith, ints)

low_bits_12_bound : (z : ℤ) → low_bits 12 z < 2 ^ 12
low_bits_12_bound (pos n) = omega arith
low_bits_12_bound (negsuc n) = omega arith

pub extended-low_bits_13 : (z : ℤ) → negsuc 4095 ≤ℤ z → z ≤ℤ pos 4094 → sign_extended 13 (low_bits 13 z) ≡ z
extended-low_bits_13 z low high = grind (arith, ints)

low_bits_13_bound : (z : ℤ) → low_bits 13 z < 2 ^ 13
low_bits_13_bound (pos n) = omega arith
low_bits_13_bound (negsuc n) = omega arith

low_bits_13_even : (z : ℤ) → IsEven z → low_bits 13 z % 2 ≡ 0
low_bits_13_even (pos n) e = omega (arith, e)
low_bits_13_even (negsuc n) e = omega (arith, e)

pub extended-low_bits_21 : (z : ℤ) → negsuc 1048575 ≤ℤ z → z ≤ℤ pos 1048574 → sign_extended 21 (low_bits 21 z) ≡ z
extended-low_bits_21 z low high = grind (arith, ints)

low_bits_21_bound : (z : ℤ) → low_bits 21 z < 2 ^ 21
low_bits_21_bound (pos n) = omega arith
low_bits_21_bound (negsuc n) = omega arith

low_bits_21_even : (z : ℤ) → IsEven z → low_bits 21 z % 2 ≡ 0
low_bits_21_even (pos n) e = omega (arith, e)
low_bits_21_even (negsuc n) e = omega (arith, e)

branch_funct_bound : (op : BranchOp) → branch_funct op < 2 ^ 3
branch_funct_bound Beq = omega arith
branch_funct_bound Bne = omega arith
branch_funct_bound Blt = omega arith
branch_funct_bound Bge = omega arith
branch_funct_bound Bltu = omega arith
branch_funct_bound Bgeu = omega arith

load_funct_bound : (op : LoadOp) → load_funct op < 2 ^ 3
load_funct_bound Lb = omega arith
load_funct_bound Lh = omega arith
load_funct_bound Lw = omega arith
load_funct_bound Lbu = omega arith
load_funct_bound Lhu = omega arith

store_funct_bound : (op : StoreOp) → store_funct op < 2 ^ 3
store_funct_bound Sb = omega arith
store_funct_bound Sh = omega arith
store_funct_bound Sw = omega arith

imm_funct_bound : (op : ImmediateOp) → imm_funct op < 2 ^ 3
imm_funct_bound Addi = omega arith
imm_funct_bound Slti = omega arith
imm_funct_bound Sltiu = omega arith
imm_funct_bound Xori = omega arith
imm_funct_bound Ori = omega arith
imm_funct_bound Andi = omega arith

shift_seven_bound : (op : ShiftOp) → (shift_functs op).seven < 2 ^ 7
shift_seven_bound Slli = omega arith
shift_seven_bound Srli = omega arith
shift_seven_bound Srai = omega arith

shift_three_bound : (op : ShiftOp) → (shift_functs op).three < 2 ^ 3
shift_three_bound Slli = omega arith
shift_three_bound Srli = omega arith
shift_three_bound Srai = omega arith

reg_seven_bound : (op : RegisterOp) → (reg_functs op).seven < 2 ^ 7
reg_seven_bound Add = omega arith
reg_seven_bound Sub = omega arith
reg_seven_bound Sll = omega arith
reg_seven_bound Slt = omega arith
reg_seven_bound Sltu = omega arith
reg_seven_bound Xor = omega arith
reg_seven_bound Srl = omega arith
reg_seven_bound Sra = omega arith
reg_seven_bound Or = omega arith
reg_seven_bound And = omega arith
reg_seven_bound Mul = omega arith
reg_seven_bound Mulh = omega arith
reg_seven_bound Mulhsu = omega arith
reg_seven_bound Mulhu = omega arith
reg_seven_bound Div = omega arith
reg_seven_bound Divu = omega arith
reg_seven_bound Rem = omega arith
reg_seven_bound Remu = omega arith

reg_three_bound : (op : RegisterOp) → (reg_functs op).three < 2 ^ 3
reg_three_bound Add = omega arith
reg_three_bound Sub = omega arith
reg_three_bound Sll = omega arith
reg_three_bound Slt = omega arith
reg_three_bound Sltu = omega arith
reg_three_bound Xor = omega arith
reg_three_bound Srl = omega arith
reg_three_bound Sra = omega arith
reg_three_bound Or = omega arith
reg_three_bound And = omega arith
reg_three_bound Mul = omega arith
reg_three_bound Mulh = omega arith
reg_three_bound Mulhsu = omega arith
reg_three_bound Mulhu = omega arith
reg_three_bound Div = omega arith
reg_three_bound Divu = omega arith
reg_three_bound Rem = omega arith
reg_three_bound Remu = omega arith

pub word_of_is_code : (i : Inst) → IsCode (word_of i) i
word_of_is_code (Lui rd imm) =
    record {
      imm_field = omega (arith, imm.in_range, imm.whole, rd.in_range);
      rd_field = omega (arith, imm.in_range, imm.whole, rd.in_range);
      opcode_field = omega (arith, imm.in_range, imm.whole, rd.in_range);
    }
word_of_is_code (Auipc rd imm) =
    record {
      imm_field = omega (arith, imm.in_range, imm.whole, rd.in_range);
      rd_field = omega (arith, imm.in_range, imm.whole, rd.in_range);
      opcode_field = omega (arith, imm.in_range, imm.whole, rd.in_range);
    }
word_of_is_code (Jal rd imm) =
    let b = low_bits_21_bound imm.value in
    let e = low_bits_21_even imm.value imm.even in
    let f : field_j (word_of (Jal rd imm)) ≡ low_bits 21 imm.value = omega (arith, b, e, rd.in_range) in
    record {
      imm_field = ap (sign_extended 21) f ∙ extended-low_bits_21 imm.value imm.low imm.high;
      rd_field = omega (arith, b, e, rd.in_range);
      opcode_field = omega (arith, b, e, rd.in_range);
    }
word_of_is_code (Jalr rd rs1 imm) =
    let b = low_bits_12_bound imm.value in
    let f : bits 31 20 (word_of (Jalr rd rs1 imm)) ≡ low_bits 12 imm.value = omega (arith, b, rd.in_range, rs1.in_range) in
    record {
      imm_field = ap (sign_extended 12) f ∙ extended-low_bits_12 imm.value imm.low imm.high;
      rs1_field = omega (arith, b, rd.in_range, rs1.in_range);
      three_field = omega (arith, b, rd.in_range, rs1.in_range);
      rd_field = omega (arith, b, rd.in_range, rs1.in_range);
      opcode_field = omega (arith, b, rd.in_range, rs1.in_range);
    }
word_of_is_code (Branch op rs1 rs2 imm) =
    let b = low_bits_13_bound imm.value in
    let e = low_bits_13_even imm.value imm.even in
    let f : field_b (word_of (Branch op rs1 rs2 imm)) ≡ low_bits 13 imm.value =
    omega (arith, b, e, rs1.in_range, rs2.in_range, branch_funct_bound op) in
    record {
      imm_field = ap (sign_extended 13) f ∙ extended-low_bits_13 imm.value imm.low imm.high;
      rs2_field = omega (arith, b, e, rs1.in_range, rs2.in_range, branch_funct_bound op);
      rs1_field = omega (arith, b, e, rs1.in_range, rs2.in_range, branch_funct_bound op);
      three_field = omega (arith, b, e, rs1.in_range, rs2.in_range, branch_funct_bound op);
      opcode_field = omega (arith, b, e, rs1.in_range, rs2.in_range, branch_funct_bound op);
    }
word_of_is_code (Load op rd rs1 imm) =
    let b = low_bits_12_bound imm.value in
    let f : bits 31 20 (word_of (Load op rd rs1 imm)) ≡ low_bits 12 imm.value = omega (arith, b, rd.in_range, rs1.in_range, load_funct_bound op) in
    record {
      imm_field = ap (sign_extended 12) f ∙ extended-low_bits_12 imm.value imm.low imm.high;
      rs1_field = omega (arith, b, rd.in_range, rs1.in_range, load_funct_bound op);
      three_field = omega (arith, b, rd.in_range, rs1.in_range, load_funct_bound op);
      rd_field = omega (arith, b, rd.in_range, rs1.in_range, load_funct_bound op);
      opcode_field = omega (arith, b, rd.in_range, rs1.in_range, load_funct_bound op);
    }
word_of_is_code (Store op rs1 rs2 imm) =
    let b = low_bits_12_bound imm.value in
    let f : field_s (word_of (Store op rs1 rs2 imm)) ≡ low_bits 12 imm.value =
    omega (arith, b, rs1.in_range, rs2.in_range, store_funct_bound op) in
    record {
      imm_field = ap (sign_extended 12) f ∙ extended-low_bits_12 imm.value imm.low imm.high;
      rs2_field = omega (arith, b, rs1.in_range, rs2.in_range, store_funct_bound op);
      rs1_field = omega (arith, b, rs1.in_range, rs2.in_range, store_funct_bound op);
      three_field = omega (arith, b, rs1.in_range, rs2.in_range, store_funct_bound op);
      opcode_field = omega (arith, b, rs1.in_range, rs2.in_range, store_funct_bound op);
    }
word_of_is_code (OpImm op rd rs1 imm) =
    let b = low_bits_12_bound imm.value in
    let f : bits 31 20 (word_of (OpImm op rd rs1 imm)) ≡ low_bits 12 imm.value = omega (arith, b, rd.in_range, rs1.in_range, imm_funct_bound op) in
    record {
      imm_field = ap (sign_extended 12) f ∙ extended-low_bits_12 imm.value imm.low imm.high;
      rs1_field = omega (arith, b, rd.in_range, rs1.in_range, imm_funct_bound op);
      three_field = omega (arith, b, rd.in_range, rs1.in_range, imm_funct_bound op);
      rd_field = omega (arith, b, rd.in_range, rs1.in_range, imm_funct_bound op);
      opcode_field = omega (arith, b, rd.in_range, rs1.in_range, imm_funct_bound op);
    }
word_of_is_code (Shift op rd rs1 amount) =
    record {
      seven_field = omega (arith, rd.in_range, rs1.in_range, amount.in_range, shift_seven_bound op, shift_three_bound op);
      rs2_field = omega (arith, rd.in_range, rs1.in_range, amount.in_range, shift_seven_bound op, shift_three_bound op);
      rs1_field = omega (arith, rd.in_range, rs1.in_range, amount.in_range, shift_seven_bound op, shift_three_bound op);
      three_field = omega (arith, rd.in_range, rs1.in_range, amount.in_range, shift_seven_bound op, shift_three_bound op);
      rd_field = omega (arith, rd.in_range, rs1.in_range, amount.in_range, shift_seven_bound op, shift_three_bound op);
      opcode_field = omega (arith, rd.in_range, rs1.in_range, amount.in_range, shift_seven_bound op, shift_three_bound op);
    }
word_of_is_code (Op op rd rs1 rs2) =
    record {
      seven_field = omega (arith, rd.in_range, rs1.in_range, rs2.in_range, reg_seven_bound op, reg_three_bound op);
      rs2_field = omega (arith, rd.in_range, rs1.in_range, rs2.in_range, reg_seven_bound op, reg_three_bound op);
      rs1_field = omega (arith, rd.in_range, rs1.in_range, rs2.in_range, reg_seven_bound op, reg_three_bound op);
      three_field = omega (arith, rd.in_range, rs1.in_range, rs2.in_range, reg_seven_bound op, reg_three_bound op);
      rd_field = omega (arith, rd.in_range, rs1.in_range, rs2.in_range, reg_seven_bound op, reg_three_bound op);
      opcode_field = omega (arith, rd.in_range, rs1.in_range, rs2.in_range, reg_seven_bound op, reg_three_bound op);
    }
word_of_is_code (Fence rd rs1 imm) =
    let b = low_bits_12_bound imm.value in
    let f : bits 31 20 (word_of (Fence rd rs1 imm)) ≡ low_bits 12 imm.value = omega (arith, b, rd.in_range, rs1.in_range) in
    record {
      imm_field = ap (sign_extended 12) f ∙ extended-low_bits_12 imm.value imm.low imm.high;
      rs1_field = omega (arith, b, rd.in_range, rs1.in_range);
      three_field = omega (arith, b, rd.in_range, rs1.in_range);
      rd_field = omega (arith, b, rd.in_range, rs1.in_range);
      opcode_field = omega (arith, b, rd.in_range, rs1.in_range);
    }
word_of_is_code Ecall = refl
word_of_is_code Ebreak = refl

pub word_of_bound : (i : Inst) → word_of i < 2 ^ 32
word_of_bound (Lui rd imm) = omega (arith, imm.in_range, imm.whole, rd.in_range)
word_of_bound (Auipc rd imm) = omega (arith, imm.in_range, imm.whole, rd.in_range)
word_of_bound (Jal rd imm) = let b = low_bits_21_bound imm.value in omega (arith, b, rd.in_range)
word_of_bound (Jalr rd rs1 imm) = let b = low_bits_12_bound imm.value in omega (arith, b, rd.in_range, rs1.in_range)
word_of_bound (Branch op rs1 rs2 imm) = let b = low_bits_13_bound imm.value in omega (arith, b, rs1.in_range, rs2.in_range, branch_funct_bound op)
word_of_bound (Load op rd rs1 imm) = let b = low_bits_12_bound imm.value in omega (arith, b, rd.in_range, rs1.in_range, load_funct_bound op)
word_of_bound (Store op rs1 rs2 imm) = let b = low_bits_12_bound imm.value in omega (arith, b, rs1.in_range, rs2.in_range, store_funct_bound op)
word_of_bound (OpImm op rd rs1 imm) = let b = low_bits_12_bound imm.value in omega (arith, b, rd.in_range, rs1.in_range, imm_funct_bound op)
word_of_bound (Shift op rd rs1 amount) = omega (arith, rd.in_range, rs1.in_range, amount.in_range, shift_seven_bound op, shift_three_bound op)
word_of_bound (Op op rd rs1 rs2) = omega (arith, rd.in_range, rs1.in_range, rs2.in_range, reg_seven_bound op, reg_three_bound op)
word_of_bound (Fence rd rs1 imm) = let b = low_bits_12_bound imm.value in omega (arith, b, rd.in_range, rs1.in_range)
word_of_bound Ecall = omega arith
word_of_bound Ebreak = omega arith
