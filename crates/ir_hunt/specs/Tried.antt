-- Which seeds of a hunt were tried.
use Rattle.std.specs.Prelude.{◌≡◌, ◌<◌, ◌≤◌, ◌⊎◌, ℕ, zero, suc, ◌+◌, ◌-◌, List, Option, Some, None}
use Rattle.ir_runs.specs.Run.{Step}
use Rattle.ir_order.specs.Recording.{IsPlanned}
use Rattle.ir_hunt.specs.Finding.{IsOfSeed, FailsSome, IsFound}
use Rattle.ir_hunt.specs.Hunt.{Hunt}
use Rattle.ir_hunt.specs.Stale.{FailsStale}
use Rattle.ir_schedule.specs.declared.seeds.Seeds.{Seeds}

-- The run by a seed was followed to its end. What the guest came to doesn't fulfil each condition, or the run hasn't what is wanted of its stale writes.
pub record Fails (hunt : Hunt) (seed : ℕ) : Type 0 where
  pub run : List Step
  pub order : List ℕ
  pub of_seed : IsOfSeed hunt seed run
  pub planned : IsPlanned hunt.guest hunt.plan order run
  pub fails : FailsSome hunt run ⊎ FailsStale hunt.guest hunt.plan hunt.wanted run

-- Of `n` seeds from the first on each was tried: the run by it fails, or it was left out. So many were left out.
abbrev pub AreTried : Hunt → ℕ → ℕ → ℕ → Type 0
AreTried hunt first zero left_out = left_out ≡ 0
AreTried hunt first (suc n) left_out = (Fails hunt (first + n) × AreTried hunt first n left_out)
    ⊎ ((before : ℕ) × (left_out ≡ before + 1) × AreTried hunt first n before)

-- the list spells the order of the run by a seed from the first to the last, which is found; each lower one of these was tried
pub record IsLowestSeed (hunt : Hunt) (first last seed left_out : ℕ) (list : List ℕ) : Type 0 where
  pub from : first ≤ seed
  pub to : seed ≤ last
  pub found : IsFound hunt seed list
  pub lower : AreTried hunt first (seed - first) left_out

-- all seeds from the first to the last were tried
abbrev pub AreAllTried : Hunt → ℕ → ℕ → ℕ → Type 0
AreAllTried hunt first last left_out = AreTried hunt first (last + 1 - first) left_out

-- the seed that is tried last where none is found: the last of these, or another of them, but that only if the time is bounded
abbrev pub IsTriedLast : Seeds → Option ℕ → ℕ → Type 0
IsTriedLast seeds seconds tried = (tried ≡ seeds.last) ⊎ ((seeds.first ≤ tried) × (tried < seeds.last) × ((s : ℕ) × (seconds ≡ Some s)))

-- the seeds from the first to the last were tried, one after the other: all of them if there is no list, and else the last is found
abbrev pub WereTried : Hunt → ℕ → ℕ → ℕ → Option (List ℕ) → Type 0
WereTried hunt first last left_out None = AreAllTried hunt first last left_out
WereTried hunt first last left_out (Some list) = IsLowestSeed hunt first last last left_out list
