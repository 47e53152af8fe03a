-- The word law, by the instruction of the word.
use Rattle.std.proofs.Common.{◌≡◌, ◌<◌, ◌^◌, ℕ, Option, Some, None, refl}
use Rattle.ir_isa.specs.Words.{word_of}
use Rattle.ir_isa.specs.Decoded.{instruction_of}
use Rattle.ir_isa.specs.declared.inst.Inst.{Inst}
use Rattle.ir_isa.specs.declared.inst.Inst.TheVariants.{Lui, Auipc, Jal, Jalr, Branch, Load, Store, OpImm, Shift, Op, Fence, Ecall, Ebreak}
use Rattle.ir_disasm.specs.Printed.{instruction_text, operand_text_by, text_of}
use Rattle.ir_asm.specs.Passes.{assembled, IsWordGuest}
use Rattle.ir_asm.proofs.Formats.{register_op_assembles, immediate_op_assembles}
use Rattle.ir_asm.proofs.Branches.{printed_shift_assembles, branch_assembles, word_line_assembles}
use Rattle.ir_asm.proofs.Pairs.{printed_jump_assembles}
use Rattle.ir_asm.proofs.Addresses.{printed_jalr_assembles, printed_load_assembles, printed_store_assembles}
use Rattle.ir_asm.proofs.Uppers.{printed_lui_assembles, printed_auipc_assembles, printed_fence_assembles}

-- the text of an instruction is assembled to its word
pub instruction_assembles : (pc : ℕ) (i : Inst) → IsWordGuest (assembled (instruction_text pc i)) (word_of i)
instruction_assembles pc (Op op rd rs1 rs2) = register_op_assembles pc op rd rs1 rs2
instruction_assembles pc (OpImm op rd rs1 i) = immediate_op_assembles pc op rd rs1 i
instruction_assembles pc (Branch op rs1 rs2 i) = branch_assembles pc op rs1 rs2 i
instruction_assembles pc Ecall = refl
instruction_assembles pc Ebreak = refl
instruction_assembles pc (Shift op rd rs1 a) = printed_shift_assembles pc op rd rs1 a
instruction_assembles pc (Jal rd i) = printed_jump_assembles pc rd i
instruction_assembles pc (Jalr rd rs1 i) = printed_jalr_assembles pc rd rs1 i
instruction_assembles pc (Load op rd rs1 i) = printed_load_assembles pc op rd rs1 i
instruction_assembles pc (Store op rs1 rs2 i) = printed_store_assembles pc op rs1 rs2 i
instruction_assembles pc (Lui rd i) = printed_lui_assembles pc rd i
instruction_assembles pc (Auipc rd i) = printed_auipc_assembles pc rd i
instruction_assembles pc (Fence rd rs1 i) = printed_fence_assembles pc rd rs1 i

-- by what is found for the word; again is that encoding what was decoded gives the word again
decoded_text_assembles : (again : (w : ℕ) (i : Inst) → w < 2 ^ 32 → instruction_of w ≡ Some i → word_of i ≡ w) → (pc w : ℕ) (o : Option Inst)
    → instruction_of w ≡ o → w < 2 ^ 32 → IsWordGuest (assembled (operand_text_by pc w o)) w
decoded_text_assembles again pc w (Some i) e h = rw (again w i h e) at (instruction_assembles pc i)
decoded_text_assembles again pc w None e h = word_line_assembles w h

-- the word law
pub text_of_word_assembles : (again : (w : ℕ) (i : Inst) → w < 2 ^ 32 → instruction_of w ≡ Some i → word_of i ≡ w) → (w pc : ℕ) → w < 2 ^ 32
    → pc < 2 ^ 32 → IsWordGuest (assembled (text_of pc w)) w
text_of_word_assembles again w pc h k = decoded_text_assembles again pc w (instruction_of w) refl h
