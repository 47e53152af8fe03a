-- Fields of instructions by their numbers, and numbers made fields again.
use Rattle.std.proofs.Common.{◌≡◌, ◌/◌, ◌%◌, ◌^◌, ◌*◌, ℕ, ap, sym, ◌∙◌, arith}
use Rattle.std.specs.Prelude.{ℤ, pos, negsuc}
use Rattle.ir_isa.specs.Fields.{sign_extended, low_bits}
use Rattle.ir_isa.specs.Even.{IsEven}
use Rattle.ir_isa.specs.declared.inst.Register.{Register}
use Rattle.ir_isa.specs.contracts.inst.Register as RegisterType
use Rattle.ir_isa.specs.declared.inst.Immediate.{Immediate}
use Rattle.ir_isa.specs.contracts.inst.Immediate as ImmediateType
use Rattle.ir_isa.specs.declared.inst.BranchOffset.{BranchOffset}
use Rattle.ir_isa.specs.contracts.inst.BranchOffset as BranchOffsetType
use Rattle.ir_isa.specs.declared.inst.JumpOffset.{JumpOffset}
use Rattle.ir_isa.specs.contracts.inst.JumpOffset as JumpOffsetType
use Rattle.ir_isa.specs.declared.inst.UpperImmediate.{UpperImmediate}
use Rattle.ir_isa.specs.contracts.inst.UpperImmediate as UpperImmediateType
use Rattle.ir_isa.specs.declared.inst.ShiftAmount.{ShiftAmount}
use Rattle.ir_isa.specs.contracts.inst.ShiftAmount as ShiftAmountType
use Rattle.ir_asm.specs.Fields.{even_bits, register_of, immediate_of, branch_offset_of, jump_offset_of, upper_of, shift_amount}
use Rattle.ir_isa.proofs.CallerLemmas.{extended-low_bits_12, extended-low_bits_13, extended-low_bits_21}

-- ---- a field is what its number makes

pub register_of_number_is : (r : Register) (n : ℕ) → r.number ≡ n % 2 ^ 5 → r ≡ register_of n
register_of_number_is r n e = RegisterType.the_type.to_one r (register_of n) (ap (λ (m : ℕ). (m, tt)) e)

pub immediate_of_value_is : (i : Immediate) (z : ℤ) → i.value ≡ sign_extended 12 (low_bits 12 z) → i ≡ immediate_of z
immediate_of_value_is i z e = ImmediateType.the_type.to_one i (immediate_of z) (ap (λ (m : ℤ). (m, tt)) e)

pub branch_offset_of_value : (i : BranchOffset) (z : ℤ) → i.value ≡ sign_extended 13 (even_bits 13 z) → i ≡ branch_offset_of z
branch_offset_of_value i z e = BranchOffsetType.the_type.to_one i (branch_offset_of z) (ap (λ (m : ℤ). (m, tt)) e)

pub jump_offset_of_value : (i : JumpOffset) (z : ℤ) → i.value ≡ sign_extended 21 (even_bits 21 z) → i ≡ jump_offset_of z
jump_offset_of_value i z e = JumpOffsetType.the_type.to_one i (jump_offset_of z) (ap (λ (m : ℤ). (m, tt)) e)

pub upper_of_value : (i : UpperImmediate) (z : ℤ) → i.value ≡ 2 ^ 12 * low_bits 20 z → i ≡ upper_of z
upper_of_value i z e = UpperImmediateType.the_type.to_one i (upper_of z) (ap (λ (m : ℕ). (m, tt)) e)

pub amount_of_bits : (a : ShiftAmount) (z : ℤ) → a.bits ≡ low_bits 5 z → a ≡ shift_amount z
amount_of_bits a z e = ShiftAmountType.the_type.to_one a (shift_amount z) (ap (λ (m : ℕ). (m, tt)) e)

-- ---- the numbers of a field make it again

even_bits_13_are_low : (z : ℤ) → IsEven z → even_bits 13 z ≡ low_bits 13 z
even_bits_13_are_low (pos n) e = omega (arith, e)
even_bits_13_are_low (negsuc n) e = omega (arith, e)

even_bits_21_are_low : (z : ℤ) → IsEven z → even_bits 21 z ≡ low_bits 21 z
even_bits_21_are_low (pos n) e = omega (arith, e)
even_bits_21_are_low (negsuc n) e = omega (arith, e)

pub register_of_own_number : (r : Register) → register_of r.number ≡ r
register_of_own_number r = sym (register_of_number_is r r.number (omega (arith, r.in_range)))

pub immediate_of_own_value : (i : Immediate) → immediate_of i.value ≡ i
immediate_of_own_value i = sym (immediate_of_value_is i i.value (sym (extended-low_bits_12 i.value i.low i.high)))

pub branch_offset_of_own : (i : BranchOffset) → branch_offset_of i.value ≡ i
branch_offset_of_own i = sym (branch_offset_of_value i i.value
    (sym (ap (sign_extended 13) (even_bits_13_are_low i.value i.even) ∙ extended-low_bits_13 i.value i.low i.high)))

pub jump_offset_of_own : (i : JumpOffset) → jump_offset_of i.value ≡ i
jump_offset_of_own i = sym (jump_offset_of_value i i.value
    (sym (ap (sign_extended 21) (even_bits_21_are_low i.value i.even) ∙ extended-low_bits_21 i.value i.low i.high)))

pub upper_of_own_upper_bits : (i : UpperImmediate) → upper_of (pos (i.value / 2 ^ 12)) ≡ i
upper_of_own_upper_bits i = sym (upper_of_value i (pos (i.value / 2 ^ 12)) (omega (arith, i.in_range, i.whole)))

pub amount_of_own_bits : (a : ShiftAmount) → shift_amount (pos a.bits) ≡ a
amount_of_own_bits a = sym (amount_of_bits a (pos a.bits) (omega (arith, a.in_range)))

low_bits_12_mod : (z : ℤ) → low_bits 12 z ≡ low_bits 12 z % 2 ^ 12
low_bits_12_mod (pos n) = omega arith
low_bits_12_mod (negsuc n) = omega arith

-- the lowest bits alone make the same immediate
pub immediate_of_own_bits : (i : Immediate) → immediate_of (pos (low_bits 12 i.value)) ≡ i
immediate_of_own_bits i = sym (immediate_of_value_is i (pos (low_bits 12 i.value))
    (sym (ap (sign_extended 12) (sym (low_bits_12_mod i.value)) ∙ extended-low_bits_12 i.value i.low i.high)))
