-- The one text of a word.
use Rattle.std.specs.Prelude.{ℕ, ◌+◌, ◌/◌, ◌%◌, ◌^◌, List, [], ◌∷◌, ◌++◌, codes, zero, Option, Some, None, ℤ, pos, negsuc, suc, decimal}
use Rattle.std.specs.Fmt.{signed_decimal}
use Rattle.std.specs.Char.{digit_char}
use Rattle.ir_isa.specs.Decoded.{instruction_of}
use Rattle.ir_isa.specs.Code.{branch_row, load_row, store_row, imm_row, shift_functs, reg_functs}
use Rattle.ir_isa.specs.Fields.{low_bits, register_name}
use Rattle.ir_isa.specs.declared.inst.Inst.{Inst}
use Rattle.ir_isa.specs.declared.inst.Inst.TheVariants.{Lui, Auipc, Jal, Jalr, Branch, Load, Store, OpImm, Shift, Op, Fence, Ecall, Ebreak}

-- the digits of n to the base 16, from the one of 16 ^ (k - 1) down
abbrev pub hex : ℕ → ℕ → List ℕ
hex zero n = []
hex (suc k) n = digit_char (n / 16 ^ k % 16) ∷ hex k n

-- a name and two operands
abbrev pub two : List ℕ → List ℕ → List ℕ → List ℕ
two name a b = name ++ 32 ∷ (a ++ 44 ∷ 32 ∷ b)

-- a name and three operands
abbrev pub three : List ℕ → List ℕ → List ℕ → List ℕ → List ℕ
three name a b c = name ++ 32 ∷ (a ++ 44 ∷ 32 ∷ (b ++ 44 ∷ 32 ∷ c))

-- a distance with its sign
abbrev pub distance : ℤ → List ℕ
distance (pos n) = 46 ∷ 43 ∷ decimal n
distance (negsuc n) = 46 ∷ 45 ∷ decimal (suc n)

-- how far, and the address of it
abbrev pub far : ℕ → ℤ → List ℕ
far pc z = distance z ++ (codes " # " ++ hex 8 ((pc + low_bits 32 z) % 2 ^ 32))

-- a number and a register in parentheses
abbrev pub address : ℤ → ℕ → List ℕ
address imm base = signed_decimal imm ++ 40 ∷ (register_name base ++ 41 ∷ [])

-- the text of an instruction at pc
abbrev pub instruction_text : ℕ → Inst → List ℕ
instruction_text pc (Lui rd imm) = two (codes "lui") (register_name rd.number) (codes "0x" ++ hex 5 (imm.value / 2 ^ 12))
instruction_text pc (Auipc rd imm) = two (codes "auipc") (register_name rd.number) (codes "0x" ++ hex 5 (imm.value / 2 ^ 12))
instruction_text pc (Jal rd offset) = two (codes "jal") (register_name rd.number) (far pc offset.value)
instruction_text pc (Jalr rd rs1 imm) = two (codes "jalr") (register_name rd.number) (address imm.value rs1.number)
instruction_text pc (Branch op rs1 rs2 offset) = three (branch_row op).0 (register_name rs1.number) (register_name rs2.number) (far pc offset.value)
instruction_text pc (Load op rd rs1 imm) = two (load_row op).0 (register_name rd.number) (address imm.value rs1.number)
instruction_text pc (Store op rs1 rs2 imm) = two (store_row op).0 (register_name rs2.number) (address imm.value rs1.number)
instruction_text pc (OpImm op rd rs1 imm) = three (imm_row op).0 (register_name rd.number) (register_name rs1.number) (signed_decimal imm.value)
instruction_text pc (Shift op rd rs1 amount) = three (shift_functs op).name (register_name rd.number) (register_name rs1.number) (decimal amount.bits)
instruction_text pc (Op op rd rs1 rs2) = three (reg_functs op).name (register_name rd.number) (register_name rs1.number) (register_name rs2.number)
instruction_text pc (Fence rd rs1 imm) = three (codes "fence") (register_name rd.number) (register_name rs1.number) (decimal (low_bits 12 imm.value))
instruction_text pc Ecall = codes "ecall"
instruction_text pc Ebreak = codes "ebreak"

-- the text of a word that is the code of this instruction, or of none
abbrev pub operand_text_by : ℕ → ℕ → Option Inst → List ℕ
operand_text_by pc word (Some i) = instruction_text pc i
operand_text_by pc word None = codes ".word" ++ 32 ∷ (codes "0x" ++ hex 8 word)

-- the text of a word at pc
abbrev pub text_of : ℕ → ℕ → List ℕ
text_of pc word = operand_text_by pc word (instruction_of word)
