-- Where the first word of a line begins and ends, and how many bytes one command may show.
use Rattle.std.specs.Prelude.{ℕ, suc, List, [], ◌∷◌, if◌then◌else◌, Option, Some, None, Bool, ◌&&◌, nat_le, ◌==◌, ◌||◌}
use Rattle.ir_command.specs.Commands.{most_bytes}

-- a space or a tab
abbrev pub is_blank : ℕ → Bool
is_blank b = (b == 32) || (b == 9)

-- the bytes from the first that is no blank
unfoldable pub skip_blanks : List ℕ → List ℕ
skip_blanks [] = []
skip_blanks (b ∷ bytes) = if is_blank b then skip_blanks bytes else b ∷ bytes

-- how many bytes are before the first blank
unfoldable pub word_end : List ℕ → ℕ
word_end [] = 0
word_end (b ∷ bytes) = if is_blank b then 0 else suc (word_end bytes)

-- n, if one command may show n bytes
abbrev pub byte_count : ℕ → Option ℕ
byte_count n = if nat_le 1 n && nat_le n most_bytes then Some n else None
