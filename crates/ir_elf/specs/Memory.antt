-- What the segments put into the parts of a guest.
use Rattle.std.specs.Prelude.{ℕ, ◌+◌, ◌-◌, ◌^◌, max, min, nat_lt, Bool, true, false, ◌&&◌, if◌then◌else◌, List, [], ◌∷◌, ◌++◌, length, take, drop, replicate, Option, Some, None}
use Rattle.byteorder.specs.Endian.{little_number}
use Rattle.ir_elf.specs.declared.part.Part.{Part}
use Rattle.ir_elf.specs.declared.part.Part.TheVariants.{Code, Memory, Table}
use Rattle.ir_elf.specs.Layout.{size_of}
use Rattle.ir_elf.specs.Segments.{Segment}

-- two parts are one
abbrev pub is_same : Part → Part → Bool
is_same Code Code = true
is_same Memory Memory = true
is_same Table Table = true
is_same Code Memory = false
is_same Code Table = false
is_same Memory Code = false
is_same Memory Table = false
is_same Table Code = false
is_same Table Memory = false

-- bytes over others from a place on
abbrev pub over : ℕ → List ℕ → List ℕ → List ℕ
over place own all = take place all ++ own ++ drop (place + length own) all

-- a part of memory after a segment
abbrev pub with_segment : Part → Segment → List ℕ → List ℕ
with_segment part s all = if is_same s.part part then over s.place s.bytes all else all

-- a part of memory after segments
abbrev pub with_segments : Part → List Segment → List ℕ → List ℕ
with_segments part [] all = all
with_segments part (s ∷ ss) all = with_segments part ss (with_segment part s all)

-- a part of memory: what the file holds of the part's segments, and 0 elsewhere
abbrev pub memory_of : Part → List Segment → List ℕ
memory_of part segments = with_segments part segments (replicate (size_of part) 0)

-- how far a segment reaches in a part
abbrev pub size_in : Part → Segment → ℕ
size_in part s = if is_same s.part part then s.place + s.size else 0

-- how far what the file holds of a segment reaches in a part
abbrev pub held_in : Part → Segment → ℕ
held_in part s = if is_same s.part part && nat_lt 0 (length s.bytes) then s.place + length s.bytes else 0

-- the greatest number of any segment
abbrev pub greatest : (Segment → ℕ) → List Segment → ℕ
greatest number [] = 0
greatest number (s ∷ ss) = max (number s) (greatest number ss)

-- how many bytes of memory a segment of a part has
abbrev pub bytes_in : Part → Segment → ℕ
bytes_in part s = if is_same s.part part then s.size else 0

-- how many bytes of memory the segments of a part have together, with `total` more, at most 2^32 - 1
abbrev pub memory_bytes_from : ℕ → Part → List Segment → ℕ
memory_bytes_from total part [] = total
memory_bytes_from total part (s ∷ ss) = memory_bytes_from (min (total + bytes_in part s) (2 ^ 32 - 1)) part ss

-- the bytes of the first segment of the table
abbrev pub table_of : List Segment → Option (List ℕ)
table_of [] = None
table_of (s ∷ ss) = if is_same s.part Table then Some s.bytes else table_of ss

-- the words of bytes, each of four, the lowest first
abbrev pub words_in : List ℕ → List ℕ
words_in (a ∷ b ∷ c ∷ d ∷ others) = little_number 4 (a ∷ b ∷ c ∷ d ∷ []) ∷ words_in others
words_in [] = []
words_in (a ∷ []) = []
words_in (a ∷ b ∷ []) = []
words_in (a ∷ b ∷ c ∷ []) = []
