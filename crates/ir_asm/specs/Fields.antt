-- The fields of instructions, made of numbers, whose lowest bits they are.
use Rattle.std.specs.Prelude.{◌≡◌, ◌<◌, ℕ, ◌*◌, ◌/◌, ◌%◌, ◌^◌, ℤ, pos, negsuc}
use Rattle.std.proofs.Common.{arith}
use Rattle.ir_isa.specs.Fields.{sign_extended, low_bits}
use Rattle.ir_isa.specs.Ranges.{below_32, low_12, high_12, low_13, high_13, even_13, low_21, high_21, even_21}
use Rattle.ir_isa.specs.declared.inst.Register.{Register}
use Rattle.ir_isa.specs.declared.inst.Immediate.{Immediate}
use Rattle.ir_isa.specs.declared.inst.BranchOffset.{BranchOffset}
use Rattle.ir_isa.specs.declared.inst.JumpOffset.{JumpOffset}
use Rattle.ir_isa.specs.declared.inst.UpperImmediate.{UpperImmediate}
use Rattle.ir_isa.specs.declared.inst.ShiftAmount.{ShiftAmount}

-- the lowest bits but the last, which is 0
abbrev pub even_bits : ℕ → ℤ → ℕ
even_bits w z = 2 * (low_bits w z / 2)

-- ---- what keeps each field in its range

pub fits_5 : (z : ℤ) → low_bits 5 z < 32
fits_5 (pos n) = omega arith
fits_5 (negsuc n) = omega arith

pub fits_12 : (z : ℤ) → low_bits 12 z < 2 ^ 12
fits_12 (pos n) = omega arith
fits_12 (negsuc n) = omega arith

pub fits_13 : (z : ℤ) → even_bits 13 z < 2 ^ 13
fits_13 (pos n) = omega arith
fits_13 (negsuc n) = omega arith

pub fits_20 : (z : ℤ) → 2 ^ 12 * low_bits 20 z < 2 ^ 32
fits_20 (pos n) = omega arith
fits_20 (negsuc n) = omega arith

pub fits_21 : (z : ℤ) → even_bits 21 z < 2 ^ 21
fits_21 (pos n) = omega arith
fits_21 (negsuc n) = omega arith

pub doubled : (n : ℕ) → 2 * n % 2 ≡ 0
doubled n = omega arith

pub shifted : (n : ℕ) → 2 ^ 12 * n % 2 ^ 12 ≡ 0
shifted n = omega arith

-- ---- the fields

-- the register of a number
abbrev pub register_of : ℕ → Register
register_of n = record { number = n % 2 ^ 5; in_range = below_32 n }

-- the immediate of the lowest twelve bits
abbrev pub immediate_of : ℤ → Immediate
immediate_of z = record {
  value = sign_extended 12 (low_bits 12 z);
  low = low_12 (low_bits 12 z) (fits_12 z);
  high =
      high_12 (low_bits 12 z) (fits_12 z);
}

-- the distance of a branch
abbrev pub branch_offset_of : ℤ → BranchOffset
branch_offset_of z = record {
  value = sign_extended 13 (even_bits 13 z);
  low = low_13 (even_bits 13 z) (fits_13 z);
  high = high_13 (even_bits 13 z) (fits_13 z) (doubled (low_bits 13 z / 2));
  even = even_13 (even_bits 13 z) (fits_13 z) (doubled (low_bits 13 z / 2));
}

-- the distance of a jump
abbrev pub jump_offset_of : ℤ → JumpOffset
jump_offset_of z = record {
  value = sign_extended 21 (even_bits 21 z);
  low = low_21 (even_bits 21 z) (fits_21 z);
  high = high_21 (even_bits 21 z) (fits_21 z) (doubled (low_bits 21 z / 2));
  even = even_21 (even_bits 21 z) (fits_21 z) (doubled (low_bits 21 z / 2));
}

-- the value whose upper twenty bits are the lowest of a number
abbrev pub upper_of : ℤ → UpperImmediate
upper_of z = record { value = 2 ^ 12 * low_bits 20 z; in_range = fits_20 z; whole = shifted (low_bits 20 z) }

-- the amount of a shift
abbrev pub shift_amount : ℤ → ShiftAmount
shift_amount z = record { bits = low_bits 5 z; in_range = fits_5 z }
