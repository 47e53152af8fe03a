-- The code table of RV32I 2.1 and M 2.0 (RISC-V Unprivileged ISA, document 20191213): which words are the code of which instruction.
use Rattle.std.specs.Prelude.{◌≡◌, ℕ, ◌+◌, ◌*◌, ◌^◌, ℤ, List, codes}
use Rattle.ir_isa.specs.Fields.{bits, sign_extended}
use Rattle.ir_isa.specs.declared.inst.Inst.{Inst}
use Rattle.ir_isa.specs.declared.inst.Inst.TheVariants.{Lui, Auipc, Jal, Jalr, Branch, Load, Store, OpImm, Shift, Op, Fence, Ecall, Ebreak}
use Rattle.ir_isa.specs.declared.inst.BranchOp.{BranchOp}
use Rattle.ir_isa.specs.declared.inst.BranchOp.TheVariants.{Beq, Bne, Blt, Bge, Bltu, Bgeu}
use Rattle.ir_isa.specs.declared.inst.LoadOp.{LoadOp}
use Rattle.ir_isa.specs.declared.inst.LoadOp.TheVariants.{Lb, Lh, Lw, Lbu, Lhu}
use Rattle.ir_isa.specs.declared.inst.StoreOp.{StoreOp}
use Rattle.ir_isa.specs.declared.inst.StoreOp.TheVariants.{Sb, Sh, Sw}
use Rattle.ir_isa.specs.declared.inst.ImmediateOp.{ImmediateOp}
use Rattle.ir_isa.specs.declared.inst.ImmediateOp.TheVariants.{Addi, Slti, Sltiu, Xori, Ori, Andi}
use Rattle.ir_isa.specs.declared.inst.ShiftOp.{ShiftOp}
use Rattle.ir_isa.specs.declared.inst.ShiftOp.TheVariants.{Slli, Srli, Srai}
use Rattle.ir_isa.specs.declared.inst.RegisterOp.{RegisterOp}
use Rattle.ir_isa.specs.declared.inst.RegisterOp.TheVariants.{Add, Sub, Sll, Slt, Sltu, Xor, Srl, Sra, Or, And, Mul, Mulh, Mulhsu, Mulhu, Div, Divu, Rem, Remu}

-- the name, the funct7 and the funct3 of an operation that has both
pub record Functs : Type 0 where
  pub name : List ℕ
  pub seven : ℕ
  pub three : ℕ

-- these
abbrev pub functs : List ℕ → ℕ → ℕ → Functs
functs name a b = record { name = name; seven = a; three = b }

-- the name and the funct3 of a branch
abbrev pub branch_row : BranchOp → List ℕ × ℕ
branch_row Beq = (codes "beq", 0b000)
branch_row Bne = (codes "bne", 0b001)
branch_row Blt = (codes "blt", 0b100)
branch_row Bge = (codes "bge", 0b101)
branch_row Bltu = (codes "bltu", 0b110)
branch_row Bgeu = (codes "bgeu", 0b111)

-- the name and the funct3 of a load
abbrev pub load_row : LoadOp → List ℕ × ℕ
load_row Lb = (codes "lb", 0b000)
load_row Lh = (codes "lh", 0b001)
load_row Lw = (codes "lw", 0b010)
load_row Lbu = (codes "lbu", 0b100)
load_row Lhu = (codes "lhu", 0b101)

-- the name and the funct3 of a store
abbrev pub store_row : StoreOp → List ℕ × ℕ
store_row Sb = (codes "sb", 0b000)
store_row Sh = (codes "sh", 0b001)
store_row Sw = (codes "sw", 0b010)

-- the name and the funct3 of an operation with an immediate
abbrev pub imm_row : ImmediateOp → List ℕ × ℕ
imm_row Addi = (codes "addi", 0b000)
imm_row Slti = (codes "slti", 0b010)
imm_row Sltiu = (codes "sltiu", 0b011)
imm_row Xori = (codes "xori", 0b100)
imm_row Ori = (codes "ori", 0b110)
imm_row Andi = (codes "andi", 0b111)

-- a shift by an immediate
abbrev pub shift_functs : ShiftOp → Functs
shift_functs Slli = functs (codes "slli") 0b0000000 0b001
shift_functs Srli = functs (codes "srli") 0b0000000 0b101
shift_functs Srai = functs (codes "srai") 0b0100000 0b101

-- an operation on two registers
abbrev pub reg_functs : RegisterOp → Functs
reg_functs Add = functs (codes "add") 0b0000000 0b000
reg_functs Sub = functs (codes "sub") 0b0100000 0b000
reg_functs Sll = functs (codes "sll") 0b0000000 0b001
reg_functs Slt = functs (codes "slt") 0b0000000 0b010
reg_functs Sltu = functs (codes "sltu") 0b0000000 0b011
reg_functs Xor = functs (codes "xor") 0b0000000 0b100
reg_functs Srl = functs (codes "srl") 0b0000000 0b101
reg_functs Sra = functs (codes "sra") 0b0100000 0b101
reg_functs Or = functs (codes "or") 0b0000000 0b110
reg_functs And = functs (codes "and") 0b0000000 0b111
reg_functs Mul = functs (codes "mul") 0b0000001 0b000
reg_functs Mulh = functs (codes "mulh") 0b0000001 0b001
reg_functs Mulhsu = functs (codes "mulhsu") 0b0000001 0b010
reg_functs Mulhu = functs (codes "mulhu") 0b0000001 0b011
reg_functs Div = functs (codes "div") 0b0000001 0b100
reg_functs Divu = functs (codes "divu") 0b0000001 0b101
reg_functs Rem = functs (codes "rem") 0b0000001 0b110
reg_functs Remu = functs (codes "remu") 0b0000001 0b111

-- ---- formats, each immediate from its highest bit down

-- the fields of a word with an upper immediate
pub record IsU (word imm rd opcode : ℕ) : Type 0 where
  pub imm_field : 2 ^ 12 * bits 31 12 word ≡ imm
  pub rd_field : bits 11 7 word ≡ rd
  pub opcode_field : bits 6 0 word ≡ opcode

-- the fields of a jump's word
pub record IsJ (word : ℕ) (imm : ℤ) (rd opcode : ℕ) : Type 0 where
  pub imm_field : sign_extended 21 (2 ^ 20 * bits 31 31 word + 2 ^ 12 * bits 19 12 word + 2 ^ 11 * bits 20 20 word + 2 * bits 30 21 word) ≡ imm
  pub rd_field : bits 11 7 word ≡ rd
  pub opcode_field : bits 6 0 word ≡ opcode

-- the fields of a word with a register and an immediate of twelve bits
pub record IsI (word : ℕ) (imm : ℤ) (rs1 three rd opcode : ℕ) : Type 0 where
  pub imm_field : sign_extended 12 (bits 31 20 word) ≡ imm
  pub rs1_field : bits 19 15 word ≡ rs1
  pub three_field : bits 14 12 word ≡ three
  pub rd_field : bits 11 7 word ≡ rd
  pub opcode_field : bits 6 0 word ≡ opcode

-- the fields of a store's word
pub record IsS (word : ℕ) (imm : ℤ) (rs2 rs1 three opcode : ℕ) : Type 0 where
  pub imm_field : sign_extended 12 (2 ^ 5 * bits 31 25 word + bits 11 7 word) ≡ imm
  pub rs2_field : bits 24 20 word ≡ rs2
  pub rs1_field : bits 19 15 word ≡ rs1
  pub three_field : bits 14 12 word ≡ three
  pub opcode_field : bits 6 0 word ≡ opcode

-- the fields of a branch's word
pub record IsB (word : ℕ) (imm : ℤ) (rs2 rs1 three opcode : ℕ) : Type 0 where
  pub imm_field : sign_extended 13 (2 ^ 12 * bits 31 31 word + 2 ^ 11 * bits 7 7 word + 2 ^ 5 * bits 30 25 word + 2 * bits 11 8 word) ≡ imm
  pub rs2_field : bits 24 20 word ≡ rs2
  pub rs1_field : bits 19 15 word ≡ rs1
  pub three_field : bits 14 12 word ≡ three
  pub opcode_field : bits 6 0 word ≡ opcode

-- the fields of a word with two registers, or with a register and the amount of a shift in the place of rs2
pub record IsR (word seven rs2 rs1 three rd opcode : ℕ) : Type 0 where
  pub seven_field : bits 31 25 word ≡ seven
  pub rs2_field : bits 24 20 word ≡ rs2
  pub rs1_field : bits 19 15 word ≡ rs1
  pub three_field : bits 14 12 word ≡ three
  pub rd_field : bits 11 7 word ≡ rd
  pub opcode_field : bits 6 0 word ≡ opcode

-- the word is the code of the instruction, one row for each
abbrev pub IsCode : ℕ → Inst → Type 0
IsCode word (Lui rd imm) = IsU word imm.value rd.number 0b0110111
IsCode word (Auipc rd imm) = IsU word imm.value rd.number 0b0010111
IsCode word (Jal rd offset) = IsJ word offset.value rd.number 0b1101111
IsCode word (Jalr rd rs1 imm) = IsI word imm.value rs1.number 0b000 rd.number 0b1100111
IsCode word (Branch op rs1 rs2 offset) = IsB word offset.value rs2.number rs1.number (branch_row op).1 0b1100011
IsCode word (Load op rd rs1 imm) = IsI word imm.value rs1.number (load_row op).1 rd.number 0b0000011
IsCode word (Store op rs1 rs2 imm) = IsS word imm.value rs2.number rs1.number (store_row op).1 0b0100011
IsCode word (OpImm op rd rs1 imm) = IsI word imm.value rs1.number (imm_row op).1 rd.number 0b0010011
IsCode word (Shift op rd rs1 amount) = IsR word (shift_functs op).seven amount.bits rs1.number (shift_functs op).three rd.number 0b0010011
IsCode word (Op op rd rs1 rs2) = IsR word (reg_functs op).seven rs2.number rs1.number (reg_functs op).three rd.number 0b0110011
IsCode word (Fence rd rs1 imm) = IsI word imm.value rs1.number 0b000 rd.number 0b0001111
IsCode word Ecall = word ≡ 0x00000073
IsCode word Ebreak = word ≡ 0x00100073
