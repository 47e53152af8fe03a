-- What a statement places, one row a form.
use Rattle.std.specs.Prelude.{ℕ, ◌+◌, ◌/◌, ◌^◌, List, [], ◌∷◌, replicate, pos}
use Rattle.ir_isa.specs.Words.{word_of}
use Rattle.ir_isa.specs.Fields.{low_bits}
use Rattle.ir_isa.specs.declared.inst.Inst.{Inst}
use Rattle.ir_isa.specs.declared.inst.Inst.TheVariants.{Lui, Auipc, Jal, Jalr, Branch, Load, Store, OpImm, Shift, Op, Fence, Ecall, Ebreak}
use Rattle.ir_isa.specs.declared.inst.ImmediateOp.TheVariants.{Addi}
use Rattle.ir_isa.specs.declared.inst.Register.{Register}
use Rattle.ir_asm.specs.Fields.{register_of, immediate_of, branch_offset_of, jump_offset_of, upper_of, shift_amount}
use Rattle.ir_asm.specs.declared.form.Form.{Form}
use Rattle.ir_asm.specs.declared.form.Form.TheVariants.{Registers, Immediates, Shifts, Loads, JumpsTo, Stores, Branches, Jumps, LoadsUpper}
use Rattle.ir_asm.specs.declared.form.Form.TheVariants.{AddsUpper, Fences, Calls, Breaks, DoesNothing, LoadsValue, Enlarges, Sections}
use Rattle.ir_asm.specs.declared.form.Form.TheVariants.{Words, Bytes, Space, Thread, Objects, Object}
use Rattle.ir_asm.specs.declared.item.Operand.{Operand}
use Rattle.ir_asm.specs.declared.item.Operand.TheVariants.{Index, Integer, Offset, Symbol}
use Rattle.ir_asm.specs.declared.item.Item.{Item}
use Rattle.ir_asm.specs.declared.item.Item.TheVariants.{Code, BranchTo, JumpTo, LoadAddress, Filled, Enlarged, Within, Entry, Count, First, Nothing}

-- the code of one instruction
abbrev pub instruction : Inst → Item
instruction inst = Code (word_of inst ∷ [])

-- the two words of li: the upper twenty bits, rounded so that the signed lower twelve make up the rest
abbrev pub li_words : Register → ℕ → List ℕ
li_words rd value = word_of (Lui rd (upper_of (pos ((value + 0x800) / 2 ^ 12)))) ∷ word_of (OpImm Addi rd rd (immediate_of (pos value)))
    ∷ []

-- the lowest bits of numbers
abbrev pub values : ℕ → List Operand → List ℕ
values bits [] = []
values bits (Integer z ∷ xs) = low_bits bits z ∷ values bits xs
values bits (x ∷ xs) = values bits xs

-- the item of a form with these operands
abbrev pub source_item : Form → List Operand → Item
source_item (Registers op) (Index rd ∷ Index rs1 ∷ Index rs2 ∷ []) = instruction (Op op rd rs1 rs2)
source_item (Immediates op) (Index rd ∷ Index rs1 ∷ Integer imm ∷ []) = instruction (OpImm op rd rs1 (immediate_of imm))
source_item (Shifts op) (Index rd ∷ Index rs1 ∷ Integer n ∷ []) = instruction (Shift op rd rs1 (shift_amount n))
source_item (Loads op) (Index rd ∷ Offset imm rs1 ∷ []) = instruction (Load op rd rs1 (immediate_of imm))
source_item JumpsTo (Index rd ∷ Offset imm rs1 ∷ []) = instruction (Jalr rd rs1 (immediate_of imm))
source_item (Stores op) (Index rs2 ∷ Offset imm rs1 ∷ []) = instruction (Store op rs1 rs2 (immediate_of imm))
source_item (Branches op) (Index rs1 ∷ Index rs2 ∷ Integer z ∷ []) = instruction (Branch op rs1 rs2 (branch_offset_of z))
source_item (Branches op) (Index rs1 ∷ Index rs2 ∷ Symbol label ∷ []) = BranchTo op rs1 rs2 label
source_item Jumps (Index rd ∷ Integer z ∷ []) = instruction (Jal rd (jump_offset_of z))
source_item Jumps (Index rd ∷ Symbol label ∷ []) = JumpTo rd label
source_item LoadsUpper (Index rd ∷ Integer z ∷ []) = instruction (Lui rd (upper_of z))
source_item AddsUpper (Index rd ∷ Integer z ∷ []) = instruction (Auipc rd (upper_of z))
source_item Fences [] = instruction (Fence (register_of 0) (register_of 0) (immediate_of (pos 0x0FF)))
source_item Fences (Index rd ∷ Index rs1 ∷ Integer z ∷ []) = instruction (Fence rd rs1 (immediate_of z))
source_item Calls [] = instruction Ecall
source_item Breaks [] = instruction Ebreak
source_item DoesNothing [] = instruction (OpImm Addi (register_of 0) (register_of 0) (immediate_of (pos 0)))
source_item LoadsValue (Index rd ∷ Integer z ∷ []) = Code (li_words rd (low_bits 32 z))
source_item LoadsValue (Index rd ∷ Symbol label ∷ []) = LoadAddress rd label
source_item Enlarges [] = Enlarged
source_item (Sections section) [] = Within section
source_item Words xs = Code (values 32 xs)
source_item Bytes xs = Filled (values 8 xs)
source_item Space (Integer z ∷ []) = Filled (replicate (low_bits 32 z) 0)
source_item Thread (Symbol label ∷ []) = Entry label
source_item (Objects image) (Integer z ∷ []) = Count (low_bits 32 z)
source_item (Object image) (Integer z ∷ xs) = First (low_bits 32 z) (values 32 xs)
source_item form xs = Nothing
