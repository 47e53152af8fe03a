-- The lines of a file of names.
use Rattle.std.specs.Prelude.{ℕ, ◌+◌, ◌==◌, ◌||◌, ◌&&◌, nat_le, not, Bool, true, false, List, [], ◌∷◌, ◌++◌, codes, bytes_eq, length, take, drop, map}
use Rattle.std.specs.Prelude.{◌≡◌, Option, Some, None, option_map, option_and_then, Result, Ok, Err, if◌then◌else◌}
use Rattle.std.specs.Option.{is_some}
use Rattle.std.specs.Str.Lines.{strip_carriage_return}
use Rattle.ir_numerals.specs.Numerals.{number_in}
use Rattle.ir_command.specs.Commands.{words_of}
use Rattle.ir_stream.specs.Answers.{lines_of}
use Rattle.ir_files.specs.Shown.{is_control, is_late_control}
use Rattle.ir_symbols.specs.Maps.{address_in}
use Rattle.ir_names.specs.Things.{NameTable, name_among}
use Rattle.ir_names.specs.declared.names_err.NamesErr.{NamesErr}
use Rattle.ir_names.specs.declared.names_err.NamesErr.TheVariants as fault
use Rattle.ir_names.specs.declared.thing.Thing.{Thing}
use Rattle.ir_names.specs.declared.thing.Thing.TheVariants.{Thread, Object, Word, Address}

-- ---- numbers and names

-- the number that 1 to 10 decimal digits write
abbrev pub decimal_in : List ℕ → Option ℕ
decimal_in word = number_in 10 0 word

-- a text begins with a control character
abbrev pub begins_with_control : List ℕ → Bool
begins_with_control [] = false
begins_with_control (b ∷ []) = is_control b
begins_with_control (b ∷ c ∷ rest) = is_control b || is_late_control b c

-- a text without control characters
abbrev pub has_no_control : List ℕ → Bool
has_no_control [] = true
has_no_control (b ∷ rest) = not (begins_with_control (b ∷ rest)) && has_no_control rest

-- the most bytes of a name
abbrev pub most_name_bytes : ℕ
most_name_bytes = 4096

-- 1 to 4096 bytes without control characters
abbrev pub is_name_of_thing : List ℕ → Bool
is_name_of_thing bytes = nat_le 1 (length bytes) && (nat_le (length bytes) most_name_bytes && has_no_control bytes)

-- ---- a line

-- a thing and a name, if that is one
abbrev pub row_if_name : Thing → List ℕ → Option (Thing × List ℕ)
row_if_name thing name = if is_name_of_thing name then Some (thing, name) else None

-- the thread or the object of this kind and number
abbrev pub thing_by : List ℕ → ℕ → Option Thing
thing_by kind number =
    if bytes_eq kind (codes "thread") then Some (Thread number) else (if bytes_eq kind (codes "object") then Some (Object number) else None)

-- the word of an object, if the words before the two numbers say so
abbrev pub word_by : List ℕ → ℕ → List ℕ → ℕ → Option Thing
word_by kind object part index =
    if bytes_eq kind (codes "object") && bytes_eq part (codes "word") then Some (Word object index) else None

-- the number and the name of the word of an object
abbrev pub word_row : List ℕ → ℕ → List ℕ → List (List ℕ) → Option (Thing × List ℕ)
word_row kind object part (index ∷ name ∷ []) =
    option_and_then (λ k. option_and_then (λ thing. row_if_name thing name) (word_by kind object part k)) (decimal_in index)
word_row kind object part words = None

-- the name of a thread or an object, or what follows the number of an object
abbrev pub row_behind_number : List ℕ → ℕ → List ℕ → List (List ℕ) → Option (Thing × List ℕ)
row_behind_number kind number name [] = option_and_then (λ thing. row_if_name thing name) (thing_by kind number)
row_behind_number kind number part (word ∷ words) = word_row kind number part (word ∷ words)

-- `thread T NAME`, `object O NAME` and `object O word W NAME`
abbrev pub row_by_words : List (List ℕ) → Option (Thing × List ℕ)
row_by_words (kind ∷ number ∷ name ∷ words) = option_and_then (λ n. row_behind_number kind n name words) (decimal_in number)
row_by_words words = None

-- the name behind an address and a blank
abbrev pub row_behind : ℕ → List ℕ → Option (Thing × List ℕ)
row_behind address (b ∷ name) = if b == 32 then row_if_name (Address address) name else None
row_behind address [] = None

-- the same, or what the words of the line say
abbrev pub row_or_words : Option ℕ → List ℕ → Option (Thing × List ℕ)
row_or_words (Some address) line = row_behind address (drop 8 line)
row_or_words None line = row_by_words (words_of line)

-- the row of a line: `A NAME`, where A is an address, or what its words say
unfoldable pub row_in : List ℕ → Option (Thing × List ℕ)
row_in line = row_or_words (address_in (take 8 line)) line

-- ---- all lines

-- the lines, without carriage returns at their ends
abbrev pub text_lines : List ℕ → List (List ℕ)
text_lines bytes = map strip_carriage_return (lines_of bytes)

-- of several names of a thing the first counts
abbrev pub with_row : NameTable → Thing × List ℕ → NameTable
with_row names row = if is_some (name_among names row.0) then names else names ++ row ∷ []

-- no word is in the line
abbrev pub has_no_word : List (List ℕ) → Bool
has_no_word [] = true
has_no_word (word ∷ words) = false

-- the names so far and that of a line, unless the line is faulty
unfoldable pub with_names_of_line : NameTable → List ℕ → Option NameTable
with_names_of_line names line = if has_no_word (words_of line) then Some names else option_map (with_row names) (row_in line)

-- goes on with what was read, or ends at a faulty line
abbrev pub read_on : ℕ → (NameTable → Result NameTable ℕ) → Option NameTable → Result NameTable ℕ
read_on number next None = Err number
read_on number next (Some names) = next names

-- the names so far and those of lines, or the number of the first faulty line, where the first line has this number
unfoldable pub names_from : NameTable → ℕ → List (List ℕ) → Result NameTable ℕ
names_from names number [] = Ok names
names_from names number (line ∷ lines) = read_on number (λ more. names_from more (number + 1) lines) (with_names_of_line names line)

-- the names of a file, or the number of the first faulty line, counted from 1
abbrev pub names_at : List ℕ → Result NameTable ℕ
names_at bytes = names_from [] 1 (text_lines bytes)

-- adding the line of this number met this fault, or memory ran out
abbrev pub IsLineFault : ℕ → NamesErr → Option NameTable → Type 0
IsLineFault number (fault.Line n) read = (n ≡ number) × (read ≡ None)
IsLineFault number fault.NoMem read = Unit {0}

-- reading met this fault, or memory ran out
abbrev pub IsNamesFault : {Y : Type 0} → NamesErr → Result Y ℕ → Type 0
IsNamesFault (fault.Line number) read = read ≡ Err number
IsNamesFault fault.NoMem read = Unit {0}
