-- The words of a table.
use Rattle.std.specs.Prelude.{◌≡◌, ℕ, ◌+◌, ◌-◌, ◌/◌, ◌%◌, ◌^◌, ◌<◌, cond, eqb, ltb, List, length, slice_index}
use Rattle.std.specs.List.{slice_index_or}
use Rattle.ir_image.specs.Guest.{most_object_words}
use Rattle.ir_object.specs.Cell.{Cell}
use Rattle.ir_object.specs.Empty.{empty}
use Rattle.ir_object.specs.Layout.{line_words, apart, word_place, content_place, table_length}
use Rattle.ir_object.specs.Word.{word_of_object}

abbrev pub object_in : List Cell → ℕ → Cell
object_in cells o = slice_index_or cells o empty

-- the words are the packed word and the contents of each object, which are words of 32 bits
pub record IsTable (cells : List Cell) (words : List ℕ) : Type 0 where
  pub size : length words ≡ table_length (length cells)
  pub heads : (o : ℕ) → o < length cells → slice_index words (word_place o) ≡ word_of_object (object_in cells o).fields
  pub places : (o i : ℕ) → o < length cells → i < most_object_words → slice_index words (content_place o i) ≡ slice_index
      (object_in cells o).words i
  pub small : (o i : ℕ) → slice_index (object_in cells o).words i < 2 ^ 32

-- word r of those of an object
abbrev pub word_in : Cell → ℕ → ℕ
word_in c r = cond (eqb r 0) (word_of_object c.fields) (cond (ltb r line_words) 0
    (cond (ltb r (line_words + most_object_words)) (slice_index c.words (r - line_words)) 0))

-- word k of a table of these objects
abbrev pub laid : List Cell → ℕ → ℕ
laid cells k = cond (ltb k line_words) 0 (word_in (object_in cells ((k - line_words) / apart)) ((k - line_words) % apart))

-- the first k words of a table of these objects
pub record IsLaid (cells : List Cell) (words : List ℕ) (k : ℕ) : Type 0 where
  pub count : length words ≡ k
  pub each : (j : ℕ) → j < k → slice_index words j ≡ laid cells j
  pub small : (o i : ℕ) → content_place o i < k → i < most_object_words → slice_index words (content_place o i) < 2 ^ 32
