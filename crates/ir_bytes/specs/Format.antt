-- A format as its fields in their order, and the first fault of bytes that aren't of it.
use Rattle.std.specs.Prelude.{ℕ, zero, suc, List, length, drop, Option, Some, None, Result, Ok, Err, nat_lt, ◌==◌, if◌then◌else◌, ◌≡◌, Bool}
use Rattle.byteorder.specs.Endian.{little_number}
use Rattle.ir_bytes.specs.Reading.{Field, tested}

-- nothing more, or a field and what follows it, which may depend on the number that the field holds
pub data Format (E : Type 0) : Type 0 where
  finished : Format E
  next : Field E → (ℕ → Format E) → Format E

-- a field, and then fields that don't depend on it
abbrev pub before : {E : Type 0} → Field E → Format E → Format E
before f rest = next f (λ _. rest)

-- n fields of one kind, one after the other
abbrev pub repeated : {E : Type 0} → ℕ → (Format E → Format E) → Format E → Format E
repeated zero one rest = rest
repeated (suc n) one rest = one (repeated n one rest)

-- a fault, or else a later one
abbrev pub or_later : {E : Type 0} → Option E → Option E → Option E
or_later (Some e) later = Some e
or_later None later = later

-- the fault of the first field, from the left, that isn't whole or holds what it may not; or else trailing, if bytes follow the last
abbrev pub first_refused : {E : Type 0} → E → E → Format E → List ℕ → Option E
first_refused short trailing finished bytes = if length bytes == 0 then None else Some trailing
first_refused short trailing (next f after) bytes =
    if nat_lt (length bytes) f.size then Some short else
    or_later (f.fault (little_number f.size bytes))
    (first_refused short trailing (after (little_number f.size bytes)) (drop f.size bytes))

-- the fault of a reading
abbrev pub fault_of : {X E : Type 0} → Result X E → Option E
fault_of (Ok x) = None
fault_of (Err e) = Some e

-- an answer, seen by a view, is what reading gives
abbrev pub IsRead : {X Y E : Type 0} → (X → Y) → Result X E → Result Y E → Type 0
IsRead view (Ok x) read = read ≡ Ok (view x)
IsRead view (Err e) read = read ≡ Err e

-- a field that may hold any number
abbrev pub plain : {E : Type 0} → ℕ → Field E
plain size = record { size = size; fault = λ _. None }

-- the fault of a number that doesn't pass
abbrev pub unless : {E : Type 0} → (ℕ → Bool) → E → ℕ → Option E
unless passes other n = if passes n then None else Some other

-- a field that holds one number
abbrev pub fixed : {E : Type 0} → ℕ → ℕ → E → Field E
fixed size number = tested size (λ n. n == number)
