-- What is known of the files that are written.
use Rattle.std.specs.Prelude.{◌≡◌, ◌||◌, ℕ, Bool, true, false, List, [], Option, Some, None, IfSome, bytes_eq, String, ⊤}
use Rattle.std.specs.Option.{option_map_or}
use Rattle.std.specs.String.{string_bytes}

-- the path at which a file was made, and the bytes that it was given since, where they are known
pub record KnownFile : Type 0 where
  pub path : Option (List ℕ)
  pub bytes : Option (List ℕ)

abbrev pub unknown : KnownFile
unknown = record { path = None; bytes = None }

-- it was made at this path, if its path is known
abbrev pub IsAt : KnownFile → List ℕ → Type 0
IsAt file path = IfSome file.path (λ p. p ≡ path)

-- known bytes
abbrev pub known_bytes : Option (List ℕ) → List ℕ
known_bytes None = []
known_bytes (Some bytes) = bytes

-- the bytes of a new file, if it is known what files are given
abbrev pub fresh : Bool → Option (List ℕ)
fresh true = Some []
fresh false = None

-- a file was given these bytes and no others, if it is known what files are given
abbrev pub Has : Bool → KnownFile → List ℕ → Type 0
Has true file bytes = file.bytes ≡ Some bytes
Has false file bytes = ⊤

-- the bytes that a file was given, which may not be made yet
abbrev pub given_bytes : {File : Type 0} → Bool → (File → KnownFile) → Option File → Option (List ℕ)
given_bytes knows known None = fresh knows
given_bytes knows known (Some file) = (known file).bytes

-- the path at which a file is made: its place, or the path beside it, if there is one
abbrev pub path_made : {Z : Type 0} → List ℕ → Option (String Z) → List ℕ
path_made place None = place
path_made place (Some beside) = string_bytes beside

-- a file is at a place: it was made there, or what stood where it was made was put there
abbrev pub stands_at : (List ℕ → List ℕ → Bool) → KnownFile → List ℕ → Bool
stands_at was_put file place = option_map_or (λ p. bytes_eq p place || was_put p place) file.path true

-- a file was made, and is at a place
abbrev pub is_put : {File : Type 0} → (List ℕ → List ℕ → Bool) → (File → KnownFile) → Option File → List ℕ → Bool
is_put was_put known None place = false
is_put was_put known (Some file) place = stands_at was_put (known file) place

-- a file that was opened stands at a place and was given these bytes and no others, as far as it is known where files stand and what they are given
pub record IsStored {File : Type 0} (known : File → KnownFile) (knows : Bool) (was_put : List ℕ → List ℕ → Bool) (place bytes : List ℕ) : Type 0 where
  pub file : File
  pub stands : stands_at was_put (known file) place ≡ true
  pub has : Has knows (known file) bytes
