-- Contents of objects by their numbers.
use Rattle.std.specs.Prelude.{◌≡◌, ℕ, List, Some, slice_get}
use Rattle.ir_state_store.specs.Hashes.{empty_hash, after_numbers, IsFoundBy}

-- no two numbers have the same contents
abbrev pub EachWordOnce : List (List ℕ) → Type 0
EachWordOnce items = (m n : ℕ) (words : List ℕ) → slice_get items m ≡ Some words → slice_get items n ≡ Some words → m ≡ n

-- each number is found by the hash of its contents
abbrev pub EachFound : List (ℕ × ℕ) → List (List ℕ) → Type 0
EachFound places items = (n : ℕ) (words : List ℕ) → slice_get items n ≡ Some words → IsFoundBy places (after_numbers empty_hash words) n
