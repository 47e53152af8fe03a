-- Numbers as command-line arguments write them.
use Rattle.std.specs.Prelude.{ℕ, ◌&&◌, nat_le, List, length, Option, Some, None, if◌then◌else◌}
use Rattle.std.specs.Str.{all_ascii_digits}
use Rattle.std.specs.Str.Parse.{digits_value}

-- one decimal digit or more, and nothing else, that write a number from low to high
abbrev pub number_within : ℕ → ℕ → List ℕ → Option ℕ
number_within low high digits =
    if (nat_le 1 (length digits) && all_ascii_digits digits) &&
    (nat_le low (digits_value 10 digits) && nat_le (digits_value 10 digits) high)
    then Some (digits_value 10 digits) else None
