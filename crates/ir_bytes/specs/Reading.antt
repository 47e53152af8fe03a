-- Reading fields from the left: each is read whole and then tested, and the first fault is named. Faults are of any type.
use Rattle.std.specs.Prelude.{ℕ, zero, suc, Bool, List, [], ◌∷◌, length, take, drop, Option, Some, None, Result, Ok, Err, nat_lt, nat_le, ◌&&◌, if◌then◌else◌}
use Rattle.byteorder.specs.Endian.{little_number}

-- what takes something from the prefix: it gives that and the bytes after it, or a fault
abbrev pub Reader : Type 0 → Type 0 → Type 0
Reader X E = List ℕ → Result (X × List ℕ) E

infixl 10 ◌>>=◌
-- a step and what follows it, up to the first fault
abbrev pub ◌>>=◌ : {A B E : Type 0} → Result A E → (A → Result B E) → Result B E
(Ok x) >>= f = f x
(Err e) >>= f = Err e

-- ---- a field

-- how many bytes a field has, and the fault of a number that it may not hold
pub record Field (E : Type 0) : Type 0 where
  pub size : ℕ
  pub fault : ℕ → Option E

-- a field that may hold the numbers that pass
abbrev pub tested : {E : Type 0} → ℕ → (ℕ → Bool) → E → Field E
tested size passes other = record { size = size; fault = λ n. if passes n then None else Some other }

-- a field from one number to another
abbrev pub within : {E : Type 0} → ℕ → ℕ → ℕ → E → Field E
within size low high = tested size (λ n. nat_le low n && nat_le n high)

-- ---- reading

-- what was read, if it is no fault
abbrev pub judged : {X E : Type 0} → Option E → X → Result X E
judged (Some e) x = Err e
judged None x = Ok x

-- the number that the first `size` bytes encode, and the bytes after them
unfoldable pub number_at : {E : Type 0} → E → ℕ → Reader ℕ E
number_at short size bytes = if nat_lt (length bytes) size then Err short else Ok (little_number size bytes, drop size bytes)

-- what a field holds, and the bytes after it
unfoldable pub field_at : {E : Type 0} → E → Field E → Reader ℕ E
field_at short f bytes = number_at short f.size bytes >>= λ n. judged (f.fault n.0) n

-- the first n bytes, and those after them
unfoldable pub bytes_at : {E : Type 0} → E → ℕ → Reader (List ℕ) E
bytes_at short n bytes = if nat_lt (length bytes) n then Err short else Ok (take n bytes, drop n bytes)

-- n fields of one kind, one after the other, and the bytes after them
unfoldable pub fields_at : {X E : Type 0} → Reader X E → ℕ → Reader (List X) E
fields_at read zero bytes = Ok ([], bytes)
fields_at read (suc n) bytes = do
  first ← read bytes
  others ← fields_at read n first.1
  Ok (first.0 ∷ others.0, others.1)
