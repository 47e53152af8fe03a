-- Where the objects of a guest are in a table of 64-bit words that threads share.
use Rattle.std.specs.Prelude.{ℕ, ◌+◌, ◌*◌}

-- the words of a cache line
abbrev pub line_words : ℕ
line_words = 8

-- the places from one object's to the next one's: a line for its word and two for its contents
abbrev pub apart : ℕ
apart = 24

-- an object's word is alone in a cache line, and its contents begin in the next; the first line is for joins
abbrev pub word_place : ℕ → ℕ
word_place o = line_words + apart * o

-- a word of its contents
abbrev pub content_place : ℕ → ℕ → ℕ
content_place o i = 2 * line_words + apart * o + i

-- how many words the table has for `count` objects
abbrev pub table_length : ℕ → ℕ
table_length count = line_words + apart * count
