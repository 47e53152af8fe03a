-- Digits.
use Rattle.std.specs.Prelude.{ℕ, Bool, nat_lt}
use Rattle.std.specs.Char.{digit_value}

-- whether the byte is a digit of the radix
abbrev pub is_digit : ℕ → ℕ → Bool
is_digit radix c = nat_lt (digit_value c) radix
