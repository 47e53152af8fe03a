-- Symbols in the order of their addresses.
use Rattle.std.specs.Prelude.{◌≡◌, ℕ, ◌/◌, ◌^◌, ◌<◌, ◌≤◌, ◌==◌, ◌&&◌, nat_le, nat_lt, Bool, IsTrue, List, [], ◌∷◌, ◌++◌, filter, Option, Some, None, if◌then◌else◌}
use Rattle.std.specs.Ordering.{nat_cmp}
use Rattle.std.specs.List.{All}
use Rattle.std.specs.List.Sorted.{IsPermutation, IsNonDecreasingBy, IsStableByKey}
use Rattle.ir_symbols.specs.Symbols.{Symbol, symbol_address}

-- the second are the first, put in the order of their addresses; those of one address stay in their order
pub record IsSortOf (given sorted : List Symbol) : Type 0 where
  pub permutation : IsPermutation given sorted
  pub rising : IsNonDecreasingBy symbol_address sorted
  pub stable : IsStableByKey symbol_address nat_cmp given sorted

-- ---- the symbols of a range

-- a symbol from one address on and before another
abbrev pub is_within : ℕ → ℕ → Symbol → Bool
is_within start end s = nat_le start s.address && nat_lt s.address end

-- the symbols from one address on and before another
abbrev pub symbols_within : ℕ → ℕ → List Symbol → List Symbol
symbols_within start end symbols = filter (is_within start end) symbols

-- ---- the nearest symbol

-- a symbol reaches the addresses from its own on in the same 64 KiB
abbrev pub reaches : ℕ → Symbol → Bool
reaches address s = nat_le s.address address && s.address / 2 ^ 16 == address / 2 ^ 16

-- of the symbols that reach the address, one at the greatest address, and of those the first
pub record IsNearestSymbol (symbols : List Symbol) (address : ℕ) (s : Symbol) : Type 0 where
  pub before : List Symbol
  pub after : List Symbol
  pub parts : symbols ≡ before ++ s ∷ after
  pub reached : IsTrue (reaches address s)
  pub first : All (λ t. IsTrue (reaches address t) → t.address < s.address) before
  pub greatest : All (λ t. IsTrue (reaches address t) → t.address ≤ s.address) after

-- of two symbols, the second of which may be missing, the one with the greater address, or else the first
abbrev pub greater_of : Symbol → Option Symbol → Symbol
greater_of s None = s
greater_of s (Some t) = if nat_lt s.address t.address then t else s

-- the nearest symbol, if one reaches the address
unfoldable pub nearest : List Symbol → ℕ → Option Symbol
nearest [] address = None
nearest (s ∷ symbols) address = if reaches address s then Some (greater_of s (nearest symbols address)) else nearest symbols address
