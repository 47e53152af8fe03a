-- What the bytecodes compute of numbers of 64 bits.
use Rattle.std.specs.Prelude.{ℕ, ◌+◌, ◌-◌, ◌*◌, ◌/◌, ◌%◌, ◌^◌, ◌==◌, nat_lt, Bool, ℤ, pos, ◌-ℤ◌, int_lt, int_div, int_rem, bit_and, bit_or, bit_xor, Option, Some, None, if◌then◌else◌}
use Rattle.ir_isa.specs.Fields.{sign_extended, low_bits}
use Rattle.ir_agent.specs.Operations.{wrapped}
use Rattle.ir_agent.specs.declared.operation.Binary.{Binary}
use Rattle.ir_agent.specs.declared.operation.Binary.TheVariants as binary
use Rattle.ir_agent.specs.declared.operation.Unary.{Unary}
use Rattle.ir_agent.specs.declared.operation.Unary.TheVariants as unary

-- a number as a signed one, its highest bit being the sign
abbrev pub signed_64 : ℕ → ℤ
signed_64 a = sign_extended 64 a

-- a whole number modulo 2 ^ 64
abbrev pub low_64 : ℤ → ℕ
low_64 z = low_bits 64 z

-- what a comparison gives
abbrev pub truth_number : Bool → ℕ
truth_number is_so = if is_so then 1 else 0

-- a quotient or a remainder, unless the divisor is 0
abbrev pub unless_zero : ℕ → ℕ → Option ℕ
unless_zero b value = if b == 0 then None else Some value

-- shifts by any amount: to the left, to the right with zeros, to the right with copies of the sign
abbrev pub shifted_left_64 : ℕ → ℕ → ℕ
shifted_left_64 a amount = if nat_lt amount 64 then wrapped (a * 2 ^ amount) else 0

abbrev pub shifted_right_64 : ℕ → ℕ → ℕ
shifted_right_64 a amount = if nat_lt amount 64 then a / 2 ^ amount else 0

abbrev pub shifted_right_signed_64 : ℕ → ℕ → ℕ
shifted_right_signed_64 a amount = if nat_lt a (2 ^ 63) then shifted_right_64 a amount else 2 ^ 64 - 1 - shifted_right_64 (2 ^ 64 - 1 - a) amount

-- of two numbers, the second from the top of the stack; a quotient is rounded toward zero, a remainder has the dividend's sign; none by 0
abbrev pub binary_value : Binary → ℕ → ℕ → Option ℕ
binary_value binary.Add a b = Some (wrapped (a + b))
binary_value binary.Subtract a b = Some (low_64 (pos a -ℤ pos b))
binary_value binary.Multiply a b = Some (wrapped (a * b))
binary_value binary.DivideSigned a b = unless_zero b (low_64 (int_div (signed_64 a) (signed_64 b)))
binary_value binary.DivideUnsigned a b = unless_zero b (a / b)
binary_value binary.RemainderSigned a b = unless_zero b (low_64 (int_rem (signed_64 a) (signed_64 b)))
binary_value binary.RemainderUnsigned a b = unless_zero b (a % b)
binary_value binary.ShiftLeft a b = Some (shifted_left_64 a b)
binary_value binary.ShiftRightSigned a b = Some (shifted_right_signed_64 a b)
binary_value binary.ShiftRightUnsigned a b = Some (shifted_right_64 a b)
binary_value binary.And a b = Some (bit_and a b)
binary_value binary.Or a b = Some (bit_or a b)
binary_value binary.Xor a b = Some (bit_xor a b)
binary_value binary.Equal a b = Some (truth_number (a == b))
binary_value binary.LessSigned a b = Some (truth_number (int_lt (signed_64 a) (signed_64 b)))
binary_value binary.LessUnsigned a b = Some (truth_number (nat_lt a b))

-- the lowest bits of a number, with zeros above them, and with copies of the highest of them
abbrev pub zero_filled : ℕ → ℕ → ℕ
zero_filled bits a = if nat_lt bits 64 then a % 2 ^ bits else a

abbrev pub sign_filled : ℕ → ℕ → ℕ
sign_filled bits a = if nat_lt bits 64 then low_64 (sign_extended bits (a % 2 ^ bits)) else a

-- of one number, and the number behind the bytecode
abbrev pub unary_value : Unary → ℕ → ℕ → ℕ
unary_value unary.LogicalNot n a = truth_number (a == 0)
unary_value unary.BitwiseNot n a = 2 ^ 64 - 1 - a
unary_value unary.Extend n a = sign_filled n a
unary_value unary.ZeroExtend n a = zero_filled n a
