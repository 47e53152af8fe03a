-- The names of registers, and the operations of each kind.
use Rattle.std.specs.Map.{lookup}
use Rattle.std.specs.Prelude.{ℕ, ◌+◌, List, [], ◌∷◌, ◌++◌, codes, Option, Some, None, bytes_eq, option_map}
use Rattle.ir_isa.specs.Fields.{register_names}
use Rattle.ir_isa.specs.declared.inst.Register.{Register}
use Rattle.ir_asm.specs.Fields.{register_of}
use Rattle.ir_isa.specs.declared.inst.BranchOp.{BranchOp}
use Rattle.ir_isa.specs.declared.inst.BranchOp.TheVariants.{Beq, Bne, Blt, Bge, Bltu, Bgeu}
use Rattle.ir_isa.specs.declared.inst.LoadOp.{LoadOp}
use Rattle.ir_isa.specs.declared.inst.LoadOp.TheVariants.{Lb, Lh, Lw, Lbu, Lhu}
use Rattle.ir_isa.specs.declared.inst.StoreOp.{StoreOp}
use Rattle.ir_isa.specs.declared.inst.StoreOp.TheVariants.{Sb, Sh, Sw}
use Rattle.ir_isa.specs.declared.inst.ImmediateOp.{ImmediateOp}
use Rattle.ir_isa.specs.declared.inst.ImmediateOp.TheVariants.{Addi, Slti, Sltiu, Xori, Ori, Andi}
use Rattle.ir_isa.specs.declared.inst.ShiftOp.{ShiftOp}
use Rattle.ir_isa.specs.declared.inst.ShiftOp.TheVariants.{Slli, Srli, Srai}
use Rattle.ir_isa.specs.declared.inst.RegisterOp.{RegisterOp}
use Rattle.ir_isa.specs.declared.inst.RegisterOp.TheVariants.{Add, Sub, Sll, Slt, Sltu, Xor, Srl, Sra, Or, And, Mul, Mulh, Mulhsu, Mulhu, Div, Divu, Rem, Remu}

-- names and their numbers, counted from one on
abbrev pub counted_names : ℕ → List (List ℕ) → List (List ℕ × ℕ)
counted_names n [] = []
counted_names n (name ∷ names) = (name, n) ∷ counted_names (n + 1) names

-- the names of the calling convention, with a second one for s0
abbrev pub abi_rows : List (List ℕ × ℕ)
abi_rows = counted_names 0 register_names ++ (codes "fp", 8) ∷ []

-- the names by number
abbrev pub x_rows : List (List ℕ × ℕ)
x_rows =
    (codes "x0", 0) ∷ (codes "x1", 1) ∷ (codes "x2", 2) ∷ (codes "x3", 3) ∷ (codes "x4", 4) ∷ (codes "x5", 5) ∷ (codes "x6", 6)
    ∷ (codes "x7", 7) ∷
    (codes "x8", 8) ∷ (codes "x9", 9) ∷ (codes "x10", 10) ∷ (codes "x11", 11) ∷ (codes "x12", 12) ∷ (codes "x13", 13) ∷ (codes "x14", 14)
    ∷ (codes "x15", 15) ∷
    (codes "x16", 16) ∷ (codes "x17", 17) ∷ (codes "x18", 18) ∷ (codes "x19", 19) ∷ (codes "x20", 20) ∷ (codes "x21", 21)
    ∷ (codes "x22", 22) ∷ (codes "x23", 23) ∷
    (codes "x24", 24) ∷ (codes "x25", 25) ∷ (codes "x26", 26) ∷ (codes "x27", 27) ∷ (codes "x28", 28) ∷ (codes "x29", 29)
    ∷ (codes "x30", 30) ∷ (codes "x31", 31) ∷ []

-- each name and its register
abbrev pub register_rows : List (List ℕ × ℕ)
register_rows = abi_rows ++ x_rows

-- what is beside a name in a table
abbrev pub named : {A : Type 0} → List (List ℕ × A) → List ℕ → Option A
named rows name = lookup (bytes_eq name) rows

-- the first of two that there is
abbrev pub first_name : {A : Type 0} → Option A → Option A → Option A
first_name (Some x) other = Some x
first_name None other = other

-- the register of a name
abbrev pub register_named : List ℕ → Option Register
register_named name = option_map register_of (named register_rows name)

-- all branches
abbrev pub branch_ops : List BranchOp
branch_ops = Beq ∷ Bne ∷ Blt ∷ Bge ∷ Bltu ∷ Bgeu ∷ []

-- all loads
abbrev pub load_ops : List LoadOp
load_ops = Lb ∷ Lh ∷ Lw ∷ Lbu ∷ Lhu ∷ []

-- all stores
abbrev pub store_ops : List StoreOp
store_ops = Sb ∷ Sh ∷ Sw ∷ []

-- all operations with an immediate
abbrev pub immediate_ops : List ImmediateOp
immediate_ops = Addi ∷ Slti ∷ Sltiu ∷ Xori ∷ Ori ∷ Andi ∷ []

-- all shifts by an immediate
abbrev pub shift_ops : List ShiftOp
shift_ops = Slli ∷ Srli ∷ Srai ∷ []

-- the operations on two registers of the base
abbrev pub base_operations : List RegisterOp
base_operations = Add ∷ Sub ∷ Sll ∷ Slt ∷ Sltu ∷ Xor ∷ Srl ∷ Sra ∷ Or ∷ And ∷ []

-- multiplications and divisions
abbrev pub multiply_operations : List RegisterOp
multiply_operations = Mul ∷ Mulh ∷ Mulhsu ∷ Mulhu ∷ Div ∷ Divu ∷ Rem ∷ Remu ∷ []
