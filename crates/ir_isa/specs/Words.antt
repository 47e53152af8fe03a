-- The word of an instruction, as the sum of its fields.
use Rattle.std.specs.Prelude.{ℕ, ◌+◌, ◌*◌, ◌/◌, ◌^◌, ℤ}
use Rattle.ir_isa.specs.Fields.{bits, low_bits}
use Rattle.ir_isa.specs.Code.{shift_functs, reg_functs}
use Rattle.ir_isa.specs.Rows.{branch_funct, load_funct, store_funct, imm_funct}
use Rattle.ir_isa.specs.declared.inst.Inst.{Inst}
use Rattle.ir_isa.specs.declared.inst.Inst.TheVariants.{Lui, Auipc, Jal, Jalr, Branch, Load, Store, OpImm, Shift, Op, Fence, Ecall, Ebreak}

-- two registers and a destination
abbrev pub r_word : ℕ → ℕ → ℕ → ℕ → ℕ → ℕ → ℕ
r_word seven rs2 rs1 three rd opcode = 2 ^ 25 * seven + 2 ^ 20 * rs2 + 2 ^ 15 * rs1 + 2 ^ 12 * three + 2 ^ 7 * rd + opcode

-- a register, a signed immediate of twelve bits and a destination
abbrev pub i_word : ℤ → ℕ → ℕ → ℕ → ℕ → ℕ
i_word imm rs1 three rd opcode = 2 ^ 20 * low_bits 12 imm + 2 ^ 15 * rs1 + 2 ^ 12 * three + 2 ^ 7 * rd + opcode

-- two registers and a signed immediate of twelve bits
abbrev pub s_word : ℤ → ℕ → ℕ → ℕ → ℕ → ℕ
s_word imm rs2 rs1 three opcode = r_word (bits 11 5 (low_bits 12 imm)) rs2 rs1 three (bits 4 0 (low_bits 12 imm)) opcode

-- two registers and the distance of a branch
abbrev pub b_word : ℤ → ℕ → ℕ → ℕ → ℕ → ℕ
b_word imm rs2 rs1 three opcode = r_word (2 ^ 6 * bits 12 12 (low_bits 13 imm) + bits 10 5 (low_bits 13 imm)) rs2 rs1 three
    (2 * bits 4 1 (low_bits 13 imm) + bits 11 11 (low_bits 13 imm)) opcode

-- the upper twenty bits of a value and a destination
abbrev pub u_word : ℕ → ℕ → ℕ → ℕ
u_word upper rd opcode = 2 ^ 12 * upper + 2 ^ 7 * rd + opcode

-- the distance of a jump and a destination
abbrev pub j_word : ℤ → ℕ → ℕ → ℕ
j_word imm rd opcode = 2 ^ 31 * bits 20 20 (low_bits 21 imm) + 2 ^ 21 * bits 10 1 (low_bits 21 imm) + 2 ^ 20 * bits 11 11 (low_bits 21 imm)
    + 2 ^ 12 * bits 19 12 (low_bits 21 imm) + 2 ^ 7 * rd + opcode

-- the word that is the code of an instruction, one row for each
abbrev pub word_of : Inst → ℕ
word_of (Lui rd imm) = u_word (imm.value / 2 ^ 12) rd.number 0b0110111
word_of (Auipc rd imm) = u_word (imm.value / 2 ^ 12) rd.number 0b0010111
word_of (Jal rd offset) = j_word offset.value rd.number 0b1101111
word_of (Jalr rd rs1 imm) = i_word imm.value rs1.number 0b000 rd.number 0b1100111
word_of (Branch op rs1 rs2 offset) = b_word offset.value rs2.number rs1.number (branch_funct op) 0b1100011
word_of (Load op rd rs1 imm) = i_word imm.value rs1.number (load_funct op) rd.number 0b0000011
word_of (Store op rs1 rs2 imm) = s_word imm.value rs2.number rs1.number (store_funct op) 0b0100011
word_of (OpImm op rd rs1 imm) = i_word imm.value rs1.number (imm_funct op) rd.number 0b0010011
word_of (Shift op rd rs1 amount) = r_word (shift_functs op).seven amount.bits rs1.number (shift_functs op).three rd.number 0b0010011
word_of (Op op rd rs1 rs2) = r_word (reg_functs op).seven rs2.number rs1.number (reg_functs op).three rd.number 0b0110011
word_of (Fence rd rs1 imm) = i_word imm.value rs1.number 0b000 rd.number 0b0001111
word_of Ecall = 0x00000073
word_of Ebreak = 0x00100073
