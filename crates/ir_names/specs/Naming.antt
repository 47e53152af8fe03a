-- An answer with names: behind each number that names something its name is put in.
use Rattle.std.specs.Prelude.{ℕ, ◌+◌, ◌==◌, ◌||◌, ◌&&◌, nat_lt, Bool, List, [], ◌∷◌, ◌++◌, codes, bytes_eq, take, fold}
use Rattle.std.specs.Prelude.{Option, Some, None, option_map, option_and_then, if◌then◌else◌}
use Rattle.std.specs.Option.{is_some}
use Rattle.ir_names.specs.Lines.{decimal_in}
use Rattle.ir_symbols.specs.Maps.{address_in}
use Rattle.ir_names.specs.Things.{NameTable, name_among}
use Rattle.ir_names.specs.declared.place.Place.{Place}
use Rattle.ir_names.specs.declared.place.Place.TheVariants as place
use Rattle.ir_names.specs.declared.thing.Thing.{Thing}
use Rattle.ir_names.specs.declared.thing.Thing.TheVariants.{Thread, Object, Word, Address}

-- How far an answer has come: the bytes of its last word, as many as can matter, what was before that word, the object that was mentioned last, and
-- whether its lines begin with addresses.
pub record Reached : Type 0 where
  pub word : List ℕ
  pub place : Place
  pub object : Option ℕ
  pub lists : Bool

-- a word ends at a blank, a line feed or a comma
abbrev pub ends_word : ℕ → Bool
ends_word b = b == 32 || (b == 10 || b == 44)

-- how many bytes of a word are kept: one more than the longest number has
abbrev pub most_word_bytes : ℕ
most_word_bytes = 11

-- the most words of an object whose values are named in a line
abbrev pub most_words : ℕ
most_words = 64

-- where a line begins
abbrev pub line_start : Bool → Place
line_start lists = if lists then place.Begin else place.Other

-- the start of an answer
abbrev pub answer_start : Bool → Reached
answer_start lists = record { word = []; place = line_start lists; object = None; lists = lists }

-- ---- what a word names

-- the word of the object that was mentioned last
abbrev pub numbered_word : Option ℕ → ℕ → Option Thing
numbered_word object index = option_map (λ number. Word number index) object

-- what the word at a place names, if it is a number of something
abbrev pub thing_at : Place → Option ℕ → List ℕ → Option Thing
thing_at place.Begin object word = option_map Address (address_in word)
thing_at place.Thread object word = option_map Thread (decimal_in word)
thing_at place.Object object word = option_map Object (decimal_in word)
thing_at place.Entry object word = option_map Object (decimal_in word)
thing_at place.Word object word = option_and_then (numbered_word object) (decimal_in word)
thing_at place.Pc object word = option_map Address (address_in word)
thing_at (place.Words index) object word = if is_some (address_in word) then numbered_word object index else None
thing_at place.Held object word = None
thing_at place.Other object word = None

-- a name as it is put in
abbrev pub tag_text : Option (List ℕ) → List ℕ
tag_text None = []
tag_text (Some name) = codes " <" ++ (name ++ codes ">")

-- what is put in before the end of the last word: ` <NAME>`, or nothing
abbrev pub tag : NameTable → Reached → List ℕ
tag names r = tag_text (option_and_then (name_among names) (thing_at r.place r.object r.word))

-- ---- what comes after a word

-- what a word says of the word behind it
abbrev pub place_behind : List ℕ → Place
place_behind word =
    if bytes_eq word (codes "thread") then place.Thread else
    (if bytes_eq word (codes "object") then place.Object else
    (if bytes_eq word (codes "read") || (bytes_eq word (codes "write") || bytes_eq word (codes "try")) then place.Entry else
    (if bytes_eq word (codes "word") then place.Word else
    (if bytes_eq word (codes "pc") then place.Pc else place.Other))))

-- where the next word is, by the place of this word and its bytes
abbrev pub next_place : Place → List ℕ → Place
next_place place.Object word = if is_some (decimal_in word) then place.Held else place_behind word
next_place place.Held word = if bytes_eq word (codes "words") then place.Words 0 else place_behind word
next_place (place.Words index) word =
    if is_some (address_in word) && nat_lt (index + 1) most_words then place.Words (index + 1) else place_behind word
next_place place.Begin word = place_behind word
next_place place.Thread word = place_behind word
next_place place.Entry word = place_behind word
next_place place.Word word = place_behind word
next_place place.Pc word = place_behind word
next_place place.Other word = place_behind word

-- the number if there is one, else what was before
abbrev pub number_or : Option ℕ → Option ℕ → Option ℕ
number_or (Some number) before = Some number
number_or None before = before

-- the object that was mentioned last, after the word at a place
abbrev pub next_object : Place → Option ℕ → List ℕ → Option ℕ
next_object place.Object before word = number_or (decimal_in word) before
next_object place.Entry before word = number_or (decimal_in word) before
next_object place.Begin before word = before
next_object place.Thread before word = before
next_object place.Held before word = before
next_object place.Word before word = before
next_object place.Pc before word = before
next_object (place.Words index) before word = before
next_object place.Other before word = before

-- where the next word is, after a byte that ends a word at a place
abbrev pub place_of_next_word : Bool → Place → List ℕ → ℕ → Place
place_of_next_word lists p word b = if b == 10 then line_start lists else next_place p word

-- after the end of a word
abbrev pub after_word : Reached → ℕ → Reached
after_word r b = record {
  word = [];
  place = place_of_next_word r.lists r.place r.word b;
  object = next_object r.place r.object r.word;
  lists = r.lists;
}

-- after a byte
abbrev pub after_byte : Reached → ℕ → Reached
after_byte r b = if ends_word b then after_word r b else record r { word = take most_word_bytes (r.word ++ b ∷ []) }

-- after several
abbrev pub after_bytes : Reached → List ℕ → Reached
after_bytes r bytes = fold after_byte r bytes

-- ---- the answer

-- what stands for a byte: the byte, and before the end of a word its name
abbrev pub byte_with_name : NameTable → Reached → ℕ → List ℕ
byte_with_name names r b = if ends_word b then tag names r ++ b ∷ [] else b ∷ []

-- the rest of an answer with names
abbrev pub text_with_names : NameTable → Reached → List ℕ → List ℕ
text_with_names names r [] = []
text_with_names names r (b ∷ bytes) = byte_with_name names r b ++ text_with_names names (after_byte r b) bytes
