-- Numbers of four bytes, and of one.
use Rattle.std.specs.Prelude.{ℕ, ◌^◌, ◌<◌}

-- a number of four bytes
abbrev pub IsWord : ℕ → Type 0
IsWord n = n < 2 ^ 32

abbrev pub IsByte : ℕ → Type 0
IsByte n = n < 2 ^ 8
