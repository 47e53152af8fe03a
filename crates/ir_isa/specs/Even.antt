-- Even numbers.
use Rattle.std.specs.Prelude.{◌≡◌, ℕ, ◌+◌, ◌%◌, ℤ, pos, negsuc}

-- what is left of a whole number after halving
abbrev pub remainder_by_two : ℤ → ℕ
remainder_by_two (pos n) = n % 2
remainder_by_two (negsuc n) = (n + 1) % 2

-- the whole number is a multiple of 2
abbrev pub IsEven : ℤ → Type 0
IsEven z = remainder_by_two z ≡ 0
