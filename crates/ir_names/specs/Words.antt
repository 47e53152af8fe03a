-- The words of a command line that name a file of names, and the others.
use Rattle.std.specs.Prelude.{ℕ, ◌||◌, Bool, true, false, List, [], ◌∷◌, ◌++◌, codes, bytes_eq, drop, take, fold, Option, Some, None, if◌then◌else◌}
use Rattle.std.specs.Option.{is_some}

-- Words, of which some were read: the file of names that they name, the others, whether the next word is that file, whether no later word is an
-- option, and whether a file was named before another.
pub record NamesSplit : Type 0 where
  pub file : Option (List ℕ)
  pub others : List (List ℕ)
  pub takes : Bool
  pub places : Bool
  pub twice : Bool

-- before the first word
abbrev pub no_words : NamesSplit
no_words = record { file = None; others = []; takes = false; places = false; twice = false }

abbrev pub with_other : NamesSplit → List ℕ → NamesSplit
with_other s word = record s { others = s.others ++ word ∷ [] }

-- a word that is a file of names
abbrev pub with_file : NamesSplit → List ℕ → NamesSplit
with_file s path = record s { file = Some path; takes = false; twice = s.twice || is_some s.file }

-- a word has the file in it
abbrev pub has_file : List ℕ → Bool
has_file word = bytes_eq (take 8 word) (codes "--names=")

-- a word that may be an option: `--names`, behind which comes the file, `--names=FILE`, `--`, behind which no word is an option, or another
abbrev pub with_option : NamesSplit → List ℕ → NamesSplit
with_option s word =
    if bytes_eq word (codes "--names") then record s { takes = true } else
    (if has_file word then with_file s (drop 8 word) else
    (if bytes_eq word (codes "--") then with_other (record s { places = true }) word else with_other s word))

-- one more word
abbrev pub split_word : NamesSplit → List ℕ → NamesSplit
split_word s word = if s.takes then with_file s word else (if s.places then with_other s word else with_option s word)

-- all words, of which the first is the program's name
abbrev pub split_words : List (List ℕ) → NamesSplit
split_words [] = no_words
split_words (name ∷ words) = fold split_word (with_other no_words name) words

-- whether a file of names is asked for
abbrev pub wants_names : NamesSplit → Bool
wants_names s = s.takes || is_some s.file

-- the file, if exactly one is named
abbrev pub only_file : NamesSplit → Option (List ℕ)
only_file s = if s.takes || s.twice then None else s.file
