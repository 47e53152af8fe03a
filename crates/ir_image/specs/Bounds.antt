-- The limits of a guest, which each image of the code keeps.
use Rattle.std.specs.Prelude.{ℕ, ◌+◌, ◌-◌, ◌*◌, length, ◌%◌, ◌≡◌, ◌<◌, ◌≤◌}
pub use Rattle.ir_bytes.specs.Numbers.{IsWord, IsByte}
use Rattle.std.specs.List.{AllByRecursion}
use Rattle.ir_image.specs.Guest.{Guest, code_start, memory_size, most_code_words, limits_of, object_words, object_count}

-- the address of a word in code of `words` words
pub record IsPlace (words place : ℕ) : Type 0 where
  pub aligned : place % 4 ≡ 0
  pub low : code_start ≤ place
  pub high : place < code_start + 4 * words

-- the limits of a guest
pub record IsGuest (g : Guest) : Type 0 where
  pub some_thread : 1 ≤ length g.entries
  pub few_threads : length g.entries ≤ (limits_of g.form).threads
  pub short_code : length g.code ≤ most_code_words
  pub short_data : length g.bytes ≤ memory_size
  pub whole_objects : length g.words % object_words g ≡ 0
  pub few_objects : object_count g ≤ (limits_of g.form).objects
  pub entries_fit : AllByRecursion (IsPlace (length g.code)) g.entries
  pub code_fits : AllByRecursion IsWord g.code
  pub bytes_fit : AllByRecursion IsByte g.bytes
  pub words_fit : AllByRecursion IsWord g.words
