-- How conditions are written.
use Rattle.std.specs.Prelude.{ℕ, suc, ◌+◌, ◌%◌, ◌==◌, ◌&&◌, nat_le, nat_lt, Bool, List, [], ◌∷◌, length, take, drop, codes, Option, Some, None, option_map, option_and_then, if◌then◌else◌}
use Rattle.std.specs.Str.{bytes_eq}
use Rattle.ir_command.specs.Commands.{most_small, number_up_to}
use Rattle.bstr.specs.Text.{split_at}
use Rattle.memchr.specs.Find.{matches}
use Rattle.ir_schedule.specs.Conditions.{Fact, End, Code, Word, Printed, Fault, Bad, Budget, Literal, Condition}

-- how many bytes come before the first blank
abbrev pub word_length : List ℕ → ℕ
word_length [] = 0
word_length (b ∷ text) = if b == 32 then 0 else suc (word_length text)

-- what comes before it
abbrev pub first_word_of : List ℕ → List ℕ
first_word_of text = take (word_length text) text

-- what comes after it, if there is one
abbrev pub rest_of : List ℕ → Option (List ℕ)
rest_of text = if nat_lt (word_length text) (length text) then Some (drop (word_length text + 1) text) else None

-- the number of 32 bits that a word writes, in decimal digits, or in `0x` and hexadecimal digits
abbrev pub value_of : List ℕ → Option ℕ
value_of word = number_up_to most_small word

-- a number, a blank, and a number
unfoldable pub two_values : List ℕ → Option (ℕ × ℕ)
two_values text = option_and_then (λ first. option_and_then (λ rest. option_map (λ second. (first, second)) (value_of rest))
    (rest_of text)) (value_of (first_word_of text))

-- a number, a blank, and two more
unfoldable pub three_values : List ℕ → Option (ℕ × ℕ × ℕ)
three_values text = option_and_then (λ first. option_and_then (λ rest. option_map (λ more. (first, more.0, more.1)) (two_values rest))
    (rest_of text)) (value_of (first_word_of text))

-- the ends' numbers
abbrev pub is_end : ℕ → Bool
is_end number = nat_le 1 number && nat_le number 14

abbrev pub end_fact : ℕ × ℕ → Option Fact
end_fact values = if is_end values.1 then Some (End values.0 values.1) else None

-- a number, a blank, and any text
unfoldable pub printed_fact : List ℕ → Option Fact
printed_fact text = option_and_then (λ thread. option_map (λ rest. Printed thread rest) (rest_of text)) (value_of (first_word_of text))

-- the fact of a name with nothing after it
unfoldable pub bare_fact : List ℕ → Option Fact
bare_fact name =
    if bytes_eq name (codes "fault") then Some Fault else
    if bytes_eq name (codes "bad") then Some Bad else
    if bytes_eq name (codes "budget") then Some Budget else None

-- the fact of a name with these arguments
unfoldable pub fact_named : List ℕ → List ℕ → Option Fact
fact_named name arguments =
    if bytes_eq name (codes "end") then option_and_then end_fact (two_values arguments) else
    if bytes_eq name (codes "code") then option_map (λ v. Code v.0 v.1) (two_values arguments) else
    if bytes_eq name (codes "word") then option_map (λ v. Word v.0 v.1 v.2) (three_values arguments) else
    if bytes_eq name (codes "out") then printed_fact arguments else None

abbrev pub fact_with : List ℕ → Option (List ℕ) → Option Fact
fact_with name None = bare_fact name
fact_with name (Some arguments) = fact_named name arguments

-- the fact that a text writes
abbrev pub fact_of : List ℕ → Option Fact
fact_of text = fact_with (first_word_of text) (rest_of text)

-- how many `!` are at its start
abbrev pub marks : List ℕ → ℕ
marks [] = 0
marks (b ∷ text) = if b == 33 then suc (marks text) else 0

-- the literal that a text writes: each `!` denies what is after it
abbrev pub literal_of : List ℕ → Option Literal
literal_of text = option_map (λ fact. record { is_denied = marks text % 2 == 1; fact = fact }) (fact_of (drop (marks text) text))

-- what is between two literals
abbrev pub bar : List ℕ
bar = codes " | "

-- the texts between the bars, of which no two share a byte
abbrev pub parts_of : List ℕ → List (List ℕ)
parts_of text = split_at text (length bar) 0 (matches text bar 0)

-- the literals that texts write, if each writes one
abbrev pub literals_of : List (List ℕ) → Option (List Literal)
literals_of [] = Some []
literals_of (text ∷ texts) = option_and_then (λ l. option_map (λ ls. l ∷ ls) (literals_of texts)) (literal_of text)

-- the condition that a text writes: literals, with bars between them
abbrev pub condition_of : List ℕ → Option Condition
condition_of text = option_map (λ ls. record { alternatives = ls }) (literals_of (parts_of text))
