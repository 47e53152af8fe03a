-- The names of the operations of each kind.
use Rattle.std.specs.Prelude.{ℕ, List, ◌∷◌, ◌++◌}
use Rattle.ir_isa.specs.Code.{branch_row, load_row, store_row, imm_row, shift_functs, reg_functs}
use Rattle.ir_isa.specs.declared.inst.BranchOp.{BranchOp}
use Rattle.ir_isa.specs.declared.inst.LoadOp.{LoadOp}
use Rattle.ir_isa.specs.declared.inst.StoreOp.{StoreOp}
use Rattle.ir_isa.specs.declared.inst.ImmediateOp.{ImmediateOp}
use Rattle.ir_isa.specs.declared.inst.ShiftOp.{ShiftOp}
use Rattle.ir_isa.specs.declared.inst.RegisterOp.{RegisterOp}

-- the name of each of the branches
abbrev pub branch_name : BranchOp → List ℕ
branch_name op = (branch_row op).0

-- the name of each of the loads
abbrev pub load_name : LoadOp → List ℕ
load_name op = (load_row op).0

-- the name of each of the stores
abbrev pub store_name : StoreOp → List ℕ
store_name op = (store_row op).0

-- the name of each of the operations with an immediate
abbrev pub immediate_name : ImmediateOp → List ℕ
immediate_name op = (imm_row op).0

-- the name of each of the shifts by an immediate
abbrev pub shift_name : ShiftOp → List ℕ
shift_name op = (shift_functs op).name

-- the name of each of the operations on two registers
abbrev pub operation_name : RegisterOp → List ℕ
operation_name op = (reg_functs op).name

-- a name and an operand
abbrev pub one : List ℕ → List ℕ → List ℕ
one name a = name ++ 32 ∷ a
