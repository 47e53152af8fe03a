-- What an instruction reads and writes, and where the code may go on after it.
use Rattle.std.specs.Prelude.{◌≡◌, ◌==◌, ◌&&◌, ℕ, ◌+◌, ◌%◌, ◌<◌, Bool, true, false, pos, ◌+ℤ◌, Option, Some, None, if◌then◌else◌, nat_le, nat_lt, ◌⊎◌, ◌||◌}
use Rattle.ir_isa.specs.declared.inst.Inst.{Inst}
use Rattle.ir_isa.specs.declared.inst.Inst.TheVariants.{Lui, Auipc, Jal, Jalr, Branch, Load, Store, OpImm, Shift, Op, Fence, Ecall, Ebreak}
use Rattle.ir_isa.specs.declared.inst.Register.{Register}
use Rattle.ir_mach.specs.Core.{next_pc}
use Rattle.ir_mach.specs.Execution.{immediate_result, low_32}
use Rattle.ir_thread.specs.State.{call_of}
use Rattle.ir_thread.specs.declared.call.Call.{Call}
use Rattle.ir_thread.specs.declared.call.Call.TheVariants as call
use Rattle.ir_thread.specs.declared.profile.Profile.TheVariants.{Two}

-- ---- system calls, each by its number in a7

-- how many arguments a call has, the first of them in a0, the next in a1 and a2
abbrev pub argument_count : Option Call → ℕ
argument_count None = 0
argument_count (Some call.End) = 1
argument_count (Some call.PutByte) = 1
argument_count (Some call.PutNumber) = 1
argument_count (Some (call.Env kind)) = 0
argument_count (Some (call.Enter access)) = 1
argument_count (Some call.Leave) = 1
argument_count (Some call.Get) = 2
argument_count (Some call.Put) = 3
argument_count (Some call.OwnNumber) = 0
argument_count (Some call.TryWrite) = 1

-- whether a call has an answer, which comes into a0
abbrev pub has_answer : Option Call → Bool
has_answer (Some (call.Env kind)) = true
has_answer (Some call.Get) = true
has_answer (Some call.OwnNumber) = true
has_answer (Some call.TryWrite) = true
has_answer _ = false

-- whether a thread can go on after a call
abbrev pub can_go_on : Option Call → Bool
can_go_on None = false
can_go_on (Some call.End) = false
can_go_on _ = true

-- one more than the highest number of a call
abbrev pub call_limit : ℕ
call_limit = 14

-- the number of the call that a value of a7 asks for; 0, which is no call's, where it asks for none
abbrev pub call_number : ℕ → ℕ
call_number value = if nat_lt value call_limit then value else 0

-- ---- instructions

-- whether it is the register of this number
abbrev pub is_one : Register → ℕ → Bool
is_one named register = named.number == register

-- whether it is the register of this number, and no write to it is lost
abbrev pub is_written : Register → ℕ → Bool
is_written rd register = (rd.number == register) && nat_lt 0 register

-- whether an instruction reads a register, where a7 asks for this call
abbrev pub reads_register : Inst → ℕ → ℕ → Bool
reads_register (Lui rd imm) number register = false
reads_register (Auipc rd imm) number register = false
reads_register (Jal rd offset) number register = false
reads_register (Jalr rd rs1 imm) number register = is_one rs1 register
reads_register (Branch op rs1 rs2 offset) number register = is_one rs1 register || is_one rs2 register
reads_register (Load op rd rs1 imm) number register = is_one rs1 register
reads_register (Store op rs1 rs2 imm) number register = is_one rs1 register || is_one rs2 register
reads_register (OpImm op rd rs1 imm) number register = is_one rs1 register
reads_register (Shift op rd rs1 amount) number register = is_one rs1 register
reads_register (Op op rd rs1 rs2) number register = is_one rs1 register || is_one rs2 register
reads_register (Fence rd rs1 imm) number register = false
reads_register Ecall number register = nat_le 10 register && nat_lt register (10 + argument_count (call_of Two number))
reads_register Ebreak number register = false

-- whether it writes the register
abbrev pub writes_register : Inst → ℕ → ℕ → Bool
writes_register (Lui rd imm) number register = is_written rd register
writes_register (Auipc rd imm) number register = is_written rd register
writes_register (Jal rd offset) number register = is_written rd register
writes_register (Jalr rd rs1 imm) number register = is_written rd register
writes_register (Branch op rs1 rs2 offset) number register = false
writes_register (Load op rd rs1 imm) number register = is_written rd register
writes_register (Store op rs1 rs2 imm) number register = false
writes_register (OpImm op rd rs1 imm) number register = is_written rd register
writes_register (Shift op rd rs1 amount) number register = is_written rd register
writes_register (Op op rd rs1 rs2) number register = is_written rd register
writes_register (Fence rd rs1 imm) number register = false
writes_register Ecall number register = (register == 10) && has_answer (call_of Two number)
writes_register Ebreak number register = false

-- the value that an instruction writes, if it is the same whatever the registers hold, of which x0 holds 0
abbrev pub constant_of : Inst → Option ℕ
constant_of (Lui rd imm) = Some imm.value
constant_of (OpImm op rd rs1 imm) = if rs1.number == 0 then Some (immediate_result op 0 imm.value) else None
constant_of _ = None

-- which call a7 asks for after an instruction that writes it or doesn't, by the constant that it writes, if it is one
abbrev pub AsksAfter : Bool → Option ℕ → ℕ → ℕ → Type 0
AsksAfter false constant before after = after ≡ before
AsksAfter true (Some value) before after = after ≡ call_number value
AsksAfter true None before after = after < call_limit

-- an instruction at this pc may go on there, where a7 asks for this call; JALR goes to any word
abbrev pub MayGoTo : Inst → ℕ → ℕ → ℕ → Type 0
MayGoTo (Jal rd offset) number pc next = (next ≡ low_32 (pos pc +ℤ offset.value)) × (next % 4 ≡ 0)
MayGoTo (Jalr rd rs1 imm) number pc next = next % 4 ≡ 0
MayGoTo (Branch op rs1 rs2 offset) number pc next =
    (next ≡ next_pc pc) ⊎ ((next ≡ low_32 (pos pc +ℤ offset.value)) × (next % 4 ≡ 0))
MayGoTo Ecall number pc next = (can_go_on (call_of Two number) ≡ true) × (next ≡ next_pc pc)
MayGoTo Ebreak number pc next = ⊥
MayGoTo _ number pc next = next ≡ next_pc pc
