-- Two values of a type are one where their fields are.
use Rattle.std.proofs.Common.{◌≡◌, ℕ, ap}
use Rattle.std.proofs.Math.IntN.{ℤ}
use Rattle.ir_isa.specs.declared.inst.Register.{Register}
use Rattle.ir_isa.specs.contracts.inst.Register as RegisterType
use Rattle.ir_isa.specs.declared.inst.Immediate.{Immediate}
use Rattle.ir_isa.specs.contracts.inst.Immediate as ImmediateType
use Rattle.ir_isa.specs.declared.inst.BranchOffset.{BranchOffset}
use Rattle.ir_isa.specs.contracts.inst.BranchOffset as BranchOffsetType
use Rattle.ir_isa.specs.declared.inst.JumpOffset.{JumpOffset}
use Rattle.ir_isa.specs.contracts.inst.JumpOffset as JumpOffsetType
use Rattle.ir_isa.specs.declared.inst.UpperImmediate.{UpperImmediate}
use Rattle.ir_isa.specs.contracts.inst.UpperImmediate as UpperImmediateType
use Rattle.ir_isa.specs.declared.inst.ShiftAmount.{ShiftAmount}
use Rattle.ir_isa.specs.contracts.inst.ShiftAmount as ShiftAmountType

pub registers_equal : (a b : Register) → a.number ≡ b.number → a ≡ b
registers_equal a b e = RegisterType.the_type.to_one a b (ap (λ (n : ℕ). (n, tt)) e)

pub immediates_equal : (a b : Immediate) → a.value ≡ b.value → a ≡ b
immediates_equal a b e = ImmediateType.the_type.to_one a b (ap (λ (n : ℤ). (n, tt)) e)

pub branch_offsets_equal : (a b : BranchOffset) → a.value ≡ b.value → a ≡ b
branch_offsets_equal a b e = BranchOffsetType.the_type.to_one a b (ap (λ (n : ℤ). (n, tt)) e)

pub jump_offsets_equal : (a b : JumpOffset) → a.value ≡ b.value → a ≡ b
jump_offsets_equal a b e = JumpOffsetType.the_type.to_one a b (ap (λ (n : ℤ). (n, tt)) e)

pub upper_immediates_equal : (a b : UpperImmediate) → a.value ≡ b.value → a ≡ b
upper_immediates_equal a b e = UpperImmediateType.the_type.to_one a b (ap (λ (n : ℕ). (n, tt)) e)

pub shift_amounts_equal : (a b : ShiftAmount) → a.bits ≡ b.bits → a ≡ b
shift_amounts_equal a b e = ShiftAmountType.the_type.to_one a b (ap (λ (n : ℕ). (n, tt)) e)
