-- A packet of gdb's remote serial protocol: `$`, its bytes, `#` and two hexadecimal digits, which are their sum.
use Rattle.std.specs.Prelude.{◌==◌, ◌||◌, ◌+◌, ◌*◌, ◌/◌, ◌%◌, ◌^◌, ℕ, Bool, true, false, List, [], ◌∷◌, ◌++◌, sum, bit_xor, if◌then◌else◌, slice_index, Option, Some, None}
use Rattle.hex.specs.Hex.{hex_digit_value, lower_digits}

-- `$`, which begins a packet
abbrev pub dollar : ℕ
dollar = 36

-- `#`, which ends the bytes of a packet
abbrev pub hash : ℕ
hash = 35

-- `}`, after which bit 5 of a byte is changed
abbrev pub escape : ℕ
escape = 125

-- `*`, which stands for a run of equal bytes in a reply
abbrev pub star : ℕ
star = 42

-- the sum of bytes, modulo 256
abbrev pub checksum : List ℕ → ℕ
checksum bytes = sum bytes % 256

-- the bytes that these stand for, if `}` came before them or didn't; a `}` at the end stands for nothing
unfoldable pub unescaped_from : Bool → List ℕ → List ℕ
unescaped_from escapes [] = []
unescaped_from true (b ∷ rest) = bit_xor b 32 ∷ unescaped_from false rest
unescaped_from false (b ∷ rest) = if b == escape then unescaped_from true rest else b ∷ unescaped_from false rest

-- the payload that the bytes between `$` and `#` stand for
abbrev pub unescaped : List ℕ → List ℕ
unescaped raw = unescaped_from false raw

-- the number of two digits
abbrev pub digits_joined : Option ℕ → Option ℕ → Option ℕ
digits_joined None low = None
digits_joined (Some h) None = None
digits_joined (Some h) (Some l) = Some (h * 16 + l)

-- the number that two bytes are the hexadecimal digits of, in either case
abbrev pub two_digits : ℕ → ℕ → Option ℕ
two_digits a b = digits_joined (hex_digit_value a) (hex_digit_value b)

-- whether it is this number
abbrev pub is_number : Option ℕ → ℕ → Bool
is_number None n = false
is_number (Some m) n = m == n

-- whether a byte can't stand in a packet as itself
abbrev pub needs_escape : ℕ → Bool
needs_escape b = b == hash || b == dollar || b == escape || b == star

-- the bytes that a byte of a payload is written as
abbrev pub escaped_byte : ℕ → List ℕ
escaped_byte b = if needs_escape b then escape ∷ bit_xor b 32 ∷ [] else b ∷ []

-- the bytes that a payload is written as
unfoldable pub escaped : List ℕ → List ℕ
escaped [] = []
escaped (b ∷ rest) = escaped_byte b ++ escaped rest

-- a number below 256 as two lower-case digits
abbrev pub digits_of : ℕ → List ℕ
digits_of n = slice_index lower_digits (n / 16) ∷ slice_index lower_digits (n % 16) ∷ []

-- a payload as a packet
abbrev pub packet_of : List ℕ → List ℕ
packet_of payload = dollar ∷ (escaped payload ++ hash ∷ digits_of (checksum (escaped payload)))

-- the four bytes of a word, the lowest first
abbrev pub word_bytes : ℕ → List ℕ
word_bytes word = word % 256 ∷ word / 256 % 256 ∷ word / 2 ^ 16 % 256 ∷ word / 2 ^ 24 % 256 ∷ []
