-- How a name, or a reason, is shown in a line.
use Rattle.std.specs.Prelude.{ℕ, ◌==◌, ◌&&◌, ◌||◌, Bool, List, [], ◌∷◌, nat_lt, not, if◌then◌else◌}

-- the question mark
abbrev pub mark : ℕ
mark = 63

-- a byte that ends a line, or leads a terminal
abbrev pub is_control : ℕ → Bool
is_control b = nat_lt b 32 || (b == 127)

-- two bytes that are one of the characters from U+0080 to U+009F, which lead a terminal too
abbrev pub is_late_control : ℕ → ℕ → Bool
is_late_control b c = (b == 194) && (nat_lt 127 c && nat_lt c 160)

abbrev pub shown_byte : ℕ → ℕ
shown_byte b = if is_control b then mark else b

-- a text with a question mark in the place of each control character
abbrev pub shown : List ℕ → List ℕ
shown [] = []
shown (b ∷ []) = shown_byte b ∷ []
shown (b ∷ c ∷ rest) = if is_late_control b c then mark ∷ shown rest else shown_byte b ∷ shown (c ∷ rest)

-- a byte that is shown as it is, whatever follows it
abbrev pub is_plain : ℕ → Bool
is_plain b = not (is_control b) && not (b == 194)
