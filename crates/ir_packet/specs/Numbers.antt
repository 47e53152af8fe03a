-- Hexadecimal numbers and bytes, as packets write them.
use Rattle.std.specs.Prelude.{ℕ, suc, ◌+◌, ◌-◌, ◌*◌, ◌==◌, ◌&&◌, ◌^◌, nat_lt, nat_le, Bool, true, false, List, [], ◌∷◌, ◌++◌, take, drop, Option, Some, None, is_some, option_and_then, if◌then◌else◌}
use Rattle.hex.specs.Hex.{hex_digit_value}
use Rattle.ir_packet.specs.Packets.{two_digits}

-- one more than the most that a number may be
abbrev pub number_limit : ℕ
number_limit = 2 ^ 32

-- the number that digits write behind those that wrote n
unfoldable pub value_from : ℕ → List ℕ → Option ℕ
value_from n [] = Some n
value_from n (d ∷ digits) = option_and_then (λ v. if nat_lt (n * 16 + v) number_limit then value_from (n * 16 + v) digits else None) (hex_digit_value d)

-- the number below 2^32 that one or more digits write, in either case
unfoldable pub number : List ℕ → Option ℕ
number [] = None
number (d ∷ digits) = value_from 0 (d ∷ digits)

-- a decimal digit, by its code
abbrev pub decimal_value : Option ℕ → Option ℕ
decimal_value None = None
decimal_value (Some code) = if nat_le 48 code && nat_le code 57 then Some (code - 48) else None

-- by its code as a pair of digits
unfoldable pub decimal_digit : ℕ → ℕ → Option ℕ
decimal_digit a b = decimal_value (two_digits a b)

-- the number that a decimal digit writes behind those that wrote n
unfoldable pub decimal_more : ℕ → ℕ → ℕ → Option ℕ
decimal_more n a b = option_and_then (λ v. if nat_lt (n * 10 + v) number_limit then Some (n * 10 + v) else None) (decimal_digit a b)

-- the number that decimal digits write behind those that wrote n, the code of each as a pair of digits
unfoldable pub decimal_from : ℕ → List ℕ → Option ℕ
decimal_from n [] = Some n
decimal_from n (a ∷ []) = None
decimal_from n (a ∷ b ∷ digits) = option_and_then (λ m. decimal_from m digits) (decimal_more n a b)

-- the number below 2^32 that one or more of them write
unfoldable pub decimal_number : List ℕ → Option ℕ
decimal_number [] = None
decimal_number (a ∷ digits) = decimal_from 0 (a ∷ digits)

-- how many bytes are before the first of these
unfoldable pub digit_index_of : ℕ → List ℕ → ℕ
digit_index_of mark [] = 0
digit_index_of mark (b ∷ bytes) = if b == mark then 0 else suc (digit_index_of mark bytes)

-- the bytes before the first of these; all of them if there is none
abbrev pub number_before : ℕ → List ℕ → List ℕ
number_before mark bytes = take (digit_index_of mark bytes) bytes

-- the bytes behind the first of these
abbrev pub behind : ℕ → List ℕ → List ℕ
behind mark bytes = drop (digit_index_of mark bytes + 1) bytes

-- whether they are pairs of digits
unfoldable pub are_pairs : List ℕ → Bool
are_pairs [] = true
are_pairs (a ∷ []) = false
are_pairs (a ∷ b ∷ digits) = is_some (two_digits a b) && are_pairs digits

abbrev pub byte_if : Option ℕ → List ℕ
byte_if None = []
byte_if (Some v) = v ∷ []

-- the bytes that pairs of digits write
unfoldable pub bytes_of_pairs : List ℕ → List ℕ
bytes_of_pairs [] = []
bytes_of_pairs (a ∷ []) = []
bytes_of_pairs (a ∷ b ∷ digits) = byte_if (two_digits a b) ++ bytes_of_pairs digits
