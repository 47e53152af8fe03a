-- Numbers in digits.
use Rattle.std.specs.Prelude.{ℕ, Bool, false, List, ◌∷◌, length, drop, Option, Some, None, if◌then◌else◌, nat_le, nat_lt, ◌==◌, ◌&&◌}
use Rattle.std.specs.List.{list_all}
use Rattle.std.specs.Char.{digit_value}
use Rattle.std.specs.Str.Parse.{digits_value}

-- the number that 1 to `most` digits of the radix write; none of other bytes
abbrev pub numeral : ℕ → ℕ → List ℕ → Option ℕ
numeral radix most digits =
    if (nat_le 1 (length digits) && nat_le (length digits) most) && list_all (λ c. nat_lt (digit_value c) radix) digits then Some (digits_value radix digits) else None

-- the bytes begin with `0x`
abbrev pub starts_hexadecimal : List ℕ → Bool
starts_hexadecimal (a ∷ b ∷ digits) = (a == 48) && (b == 120)
starts_hexadecimal digits = false

-- the number that 1 to `decimal` decimal digits write, or `0x` and 1 to `hexadecimal` digits of either case
abbrev pub number_in : ℕ → ℕ → List ℕ → Option ℕ
number_in decimal hexadecimal text = if starts_hexadecimal text then numeral 16 hexadecimal (drop 2 text) else numeral 10 decimal text
