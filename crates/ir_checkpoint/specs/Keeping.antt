-- What a keeper keeps.
use Rattle.std.specs.Prelude.{◌≡◌, ◌==◌, ◌&&◌, ◌≤◌, ◌+◌, ℕ, suc, Bool, true, false, nat_le, List, [], ◌∷◌, length, map, flat_map, if◌then◌else◌, Option, Some, None}
use Rattle.std.specs.List.{All}
use Rattle.ir_fit.specs.Fit.{FittedTrace}
use Rattle.ir_weave.specs.Standing.{Standing, StandsAtCut}
use Rattle.ir_checkpoint.specs.Pages.{all_pages, next_sources, page_origins, different}

-- a kept cut: its number, the threads and objects there, and the source of each page by its place
pub record KeptState : Type 0 where
  pub number : ℕ
  pub state : Standing
  pub sources : List ℕ

-- its positions
abbrev pub cut_in : KeptState → List ℕ
cut_in k = map (λ t. t.steps) k.state.threads

-- all that is kept, the greatest number first, and the last number that was given
pub record Keeping : Type 0 where
  pub kept : List KeptState
  pub last : ℕ

-- the most cuts that are kept: the start, and 64 beside it
abbrev pub most_states : ℕ
most_states = 65

-- every page of the start is of the start
abbrev pub first_kept : Standing → KeptState
first_kept state = record { number = 0; state = state; sources = map (λ _. 0) (all_pages state.threads) }

-- it keeps the start alone, as 0
abbrev pub IsNew : FittedTrace → Keeping → Type 0
IsNew f keeping = (start : Standing) × StandsAtCut f (λ t. 0) start × (keeping ≡ record { kept = first_kept start ∷ []; last = 0 })

-- a state kept as n after the greatest number that is kept
abbrev pub next_kept : ℕ → Standing → KeptState → KeptState
next_kept n state greatest = record {
  number = n;
  state = state;
  sources = next_sources n (all_pages state.threads) (all_pages greatest.state.threads) greatest.sources;
}

-- a state is kept beside others
abbrev pub with_next : ℕ → Standing → List KeptState → List KeptState
with_next n state [] = []
with_next n state (greatest ∷ others) = next_kept n state greatest ∷ greatest ∷ others

-- a state is kept under the next number
abbrev pub after_keep : Standing → Keeping → Keeping
after_keep state keeping = record { kept = with_next (suc keeping.last) state keeping.kept; last = suc keeping.last }

-- all but the one of this number
abbrev pub without : ℕ → List KeptState → List KeptState
without n [] = []
without n (k ∷ others) = if k.number == n then without n others else k ∷ without n others

abbrev pub after_drop : ℕ → Keeping → Keeping
after_drop n keeping = record { kept = without n keeping.kept; last = keeping.last }

-- the kept cut of this number
abbrev pub kept_as : ℕ → List KeptState → Option KeptState
kept_as n [] = None
kept_as n (k ∷ others) = if k.number == n then Some k else kept_as n others

-- how many different pages there are, by source, thread and number, over the cuts that are kept now
abbrev pub page_count : Keeping → ℕ
page_count keeping = different (flat_map (λ k. page_origins 0 k.sources) keeping.kept)

-- no position of the first is above the second's
abbrev pub is_below : List ℕ → List ℕ → Bool
is_below [] high = true
is_below (a ∷ low) [] = false
is_below (a ∷ low) (b ∷ high) = nat_le a b && is_below low high

-- how many steps lie before a cut
abbrev pub total : List ℕ → ℕ
total [] = 0
total (k ∷ cut) = k + total cut

-- the kept cut of number n is at or below this one, and no other that is has more steps before it
pub record IsNearest (cut : List ℕ) (keeping : Keeping) (n : ℕ) : Type 0 where
  pub one : KeptState
  pub kept : kept_as n keeping.kept ≡ Some one
  pub below : is_below (cut_in one) cut ≡ true
  pub nearest : (m : ℕ) (other : KeptState) → kept_as m keeping.kept ≡ Some other → is_below (cut_in other) cut ≡ true
      → total (cut_in other) ≤ total (cut_in one)

-- a state of as many threads as each that is kept
abbrev pub IsLike : Standing → Keeping → Type 0
IsLike state keeping = All (λ k. length k.state.threads ≡ length state.threads) keeping.kept

-- a cut of as many threads as each that is kept
abbrev pub IsCutFor : List ℕ → Keeping → Type 0
IsCutFor cut keeping = All (λ k. length k.state.threads ≡ length cut) keeping.kept
