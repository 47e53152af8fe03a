-- How many symbols are below an address.
use Rattle.std.proofs.Common.{◌≡◌, ◌<◌, ◌≤◌, ℕ, true, false, List, ltb, leb, ltb-true, ltb-false, leb-true, leb-false}
use Rattle.std.specs.List.Sorted.{IsPartitionPoint}
use Rattle.ir_symbols.specs.Symbols.{Symbol, symbol_address}

-- so many are below the address
abbrev pub IsCountBelow : List Symbol → ℕ → ℕ → Type 0
IsCountBelow symbols address n = IsPartitionPoint (λ s. symbol_address s < address) (λ s. address ≤ symbol_address s) symbols n

-- so many are at the address or below it
abbrev pub IsCountUpTo : List Symbol → ℕ → ℕ → Type 0
IsCountUpTo symbols address n = IsPartitionPoint (λ s. symbol_address s ≤ address) (λ s. address < symbol_address s) symbols n

pub count_below_partition : (symbols : List Symbol) (address n : ℕ)
    → IsPartitionPoint (λ s. ltb (symbol_address s) address ≡ true) (λ s. ltb (symbol_address s) address ≡ false) symbols n
    → IsCountBelow symbols address n
count_below_partition symbols address n h = (λ k d l u. ltb-true _ _ (h.0 k d l u), λ k d l u. ltb-false _ _ (h.1 k d l u))

pub count_up_to_partition : (symbols : List Symbol) (address n : ℕ)
    → IsPartitionPoint (λ s. leb (symbol_address s) address ≡ true) (λ s. leb (symbol_address s) address ≡ false) symbols n
    → IsCountUpTo symbols address n
count_up_to_partition symbols address n h = (λ k d l u. leb-true _ _ (h.0 k d l u), λ k d l u. leb-false _ _ (h.1 k d l u))
