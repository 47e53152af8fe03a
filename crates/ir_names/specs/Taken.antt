-- What a writer with names took of a plain answer, by the bytes that the writer behind it took.
use Rattle.std.specs.Prelude.{ℕ, ◌-◌, ◌&&◌, not, zero, suc, Bool, true, false, List, [], ◌∷◌, ◌++◌, bytes_eq, flat_map, length, take}
use Rattle.std.specs.Prelude.{Option, Some, None, option_and_then, option_map, if◌then◌else◌}
use Rattle.ir_names.specs.Naming.{Reached, answer_start, after_bytes, ends_word, text_with_names, after_byte, tag}
use Rattle.ir_names.specs.Things.{NameTable}
use Rattle.ir_names.specs.declared.place.Place.{Place}
use Rattle.ir_names.specs.declared.place.Place.TheVariants as place
use Rattle.ir_names.specs.declared.thing.Thing.{Thing}
use Rattle.ir_names.specs.declared.thing.Thing.TheVariants.{Thread, Object, Word, Address}

-- ---- which names are put in

abbrev pub bool_number : Bool → ℕ
bool_number false = 0
bool_number true = 1

-- what a name is of, in three numbers
abbrev pub thing_numbers : Thing → List ℕ
thing_numbers (Thread number) = 0 ∷ number ∷ 0 ∷ []
thing_numbers (Object number) = 1 ∷ number ∷ 0 ∷ []
thing_numbers (Word object index) = 2 ∷ object ∷ index ∷ []
thing_numbers (Address address) = 3 ∷ address ∷ 0 ∷ []

-- a row in numbers
abbrev pub row_numbers : Thing × List ℕ → List ℕ
row_numbers row = thing_numbers row.0 ++ length row.1 ∷ row.1

-- names, and whether lines begin with addresses, in numbers, by which they are known also before other numbers
abbrev pub begun_numbers : NameTable → Bool → List ℕ
begun_numbers names lists = bool_number lists ∷ length names ∷ flat_map row_numbers names

-- ---- what passes as it is

abbrev pub has_no_bytes : List ℕ → Bool
has_no_bytes [] = true
has_no_bytes (b ∷ bytes) = false

-- how many of the bytes come before the first name
unfoldable pub bytes_before_name : NameTable → Reached → List ℕ → ℕ
bytes_before_name names r [] = 0
bytes_before_name names r (b ∷ bytes) = if ends_word b && not (has_no_bytes (tag names r)) then 0 else suc (bytes_before_name names (after_byte r b) bytes)

-- ---- the plain bytes of an answer with names

-- The plain answer that an answer with names is of. The number says how many bytes of a name are passed over before the next byte is taken as it is.
unfoldable pub unnamed : NameTable → Reached → Option ℕ → List ℕ → List ℕ
unnamed names r skips [] = []
unnamed names r (Some (suc n)) (b ∷ bytes) = unnamed names r (Some n) bytes
unnamed names r (Some zero) (b ∷ bytes) = b ∷ unnamed names (after_byte r b) None bytes
unnamed names r None (b ∷ bytes) =
    if ends_word b && not (has_no_bytes (tag names r)) then unnamed names r (Some (length (tag names r) - 1)) bytes else b ∷ unnamed names (after_byte r b) None bytes

-- ---- whether two are equal

abbrev pub place_number : Place → ℕ
place_number place.Begin = 0
place_number place.Thread = 1
place_number place.Object = 2
place_number place.Entry = 3
place_number place.Held = 4
place_number place.Word = 5
place_number place.Pc = 6
place_number place.Other = 7
place_number (place.Words index) = suc (suc (suc (suc (suc (suc (suc (suc index)))))))

abbrev pub option_number : Option ℕ → ℕ
option_number None = 0
option_number (Some n) = suc n

-- all that one has, in numbers
abbrev pub reached_numbers : Reached → List ℕ
reached_numbers r = place_number r.place ∷ option_number r.object ∷ bool_number r.lists ∷ r.word

abbrev pub reached_alike : Reached → Reached → Bool
reached_alike a b = bytes_eq (reached_numbers a) (reached_numbers b)

-- ---- what it took

-- a text, and after it the first bytes of the name that was begun, as many as there are in all; only where the writer behind has failed
abbrev pub with_begun_name : NameTable → Reached → Bool → ℕ → List ℕ → List ℕ
with_begun_name names r failed total text = text ++ (if failed then take (total - length text) (tag names r) else [])

-- a plain answer, if these bytes are the answer with names, and it comes so far
abbrev pub plain_if : NameTable → Reached → Bool → List ℕ → List ℕ → Option (List ℕ)
plain_if names r failed bytes plain =
    if bytes_eq bytes (with_begun_name names r failed (length bytes) (text_with_names names (answer_start r.lists) plain)) && reached_alike (after_bytes (answer_start r.lists) plain) r
    then Some plain else None

-- the plain answer that these bytes are of
abbrev pub plain_of : NameTable → Reached → Bool → List ℕ → Option (List ℕ)
plain_of names r failed bytes = plain_if names r failed bytes (unnamed names (answer_start r.lists) None bytes)

-- the plain answer, where it is known what the writer behind took: from its start on the answer with names, and if it has failed, the first bytes of
-- a name after it
abbrev pub plain_taken : NameTable → Reached → Bool → Option (List ℕ) → Option (List ℕ)
plain_taken names r failed known = option_and_then (plain_of names r failed) known

-- The same behind the numbers of the names: so it is known of what takes more of the answer that it puts in the same names.
abbrev pub known_plain : NameTable → Reached → Bool → Option (List ℕ) → Option (List ℕ)
known_plain names r failed known = option_map (λ plain. begun_numbers names r.lists ++ plain) (plain_taken names r failed known)
