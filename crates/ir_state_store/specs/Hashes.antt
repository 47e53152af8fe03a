-- Hashes, and numbers that are found by them.
use Rattle.std.specs.Prelude.{◌≡◌, ◌≢◌, ℕ, ◌+◌, ◌-◌, ◌*◌, ◌%◌, ◌^◌, ◌<◌, List, [], ◌∷◌, Option, Some, None, nat_eq, bit_xor}
use Rattle.std.specs.Map.{lookup}

-- the start of the hash FNV-1a, of 64 bits
abbrev pub empty_hash : ℕ
empty_hash = 0xcbf29ce484222325

-- the hash, after one number more
abbrev pub after_number : ℕ → ℕ → ℕ
after_number hash number = bit_xor hash number * 0x100000001b3 % 2 ^ 64

-- the hash, after these numbers too
abbrev pub after_numbers : ℕ → List ℕ → ℕ
after_numbers hash [] = hash
after_numbers hash (number ∷ numbers) = after_numbers (after_number hash number) numbers

-- the place so many steps after that of a hash
abbrev pub hash_place : ℕ → ℕ → ℕ
hash_place hash steps = (hash + steps) % 2 ^ 64

-- the number at a place
abbrev pub hashed_number_at : List (ℕ × ℕ) → ℕ → Option ℕ
hashed_number_at places place = lookup (nat_eq place) places

-- how many steps a place may be from that of the hash
abbrev pub most_steps : ℕ
most_steps = 2 ^ 64 - 1

-- The number is found by this hash: some steps after the place of the hash, where no place before is free.
pub record IsFoundBy (places : List (ℕ × ℕ)) (hash number : ℕ) : Type 0 where
  pub steps : ℕ
  pub few : steps < most_steps
  pub at : hashed_number_at places (hash_place hash steps) ≡ Some number
  pub taken : (k : ℕ) → k < steps → hashed_number_at places (hash_place hash k) ≢ None

-- what is found by a hash stays found
abbrev pub KeepsFound : List (ℕ × ℕ) → List (ℕ × ℕ) → Type 0
KeepsFound old new = (hash number : ℕ) → IsFoundBy old hash number → IsFoundBy new hash number

-- no number at the first so many places from that of a hash is one of these
abbrev pub PassesOver : List (ℕ × ℕ) → ℕ → ℕ → (ℕ → Type 0) → Type 0
PassesOver places hash steps P = (k n : ℕ) → k < steps → hashed_number_at places (hash_place hash k) ≡ Some n → P n → ⊥
