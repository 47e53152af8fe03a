-- Positions that are moved so that steps are inside a cut, or outside.
use Rattle.std.specs.Prelude.{◌≡◌, ℕ, ◌+◌, ◌<◌, ◌≤◌, ◌^◌, List, length, slice_get, Some}
use Rattle.ir_runs.specs.Run.{Cut}
use Rattle.ir_cut.specs.Positions.{cut_of}
use Rattle.ir_fit.specs.declared.place.Place.{Place}

-- a fact of each of the first n places
abbrev pub EachPlace : List Place → ℕ → (Place → Type 0) → Type 0
EachPlace ps n P = (i : ℕ) (p : Place) → i < n → slice_get ps i ≡ Some p → P p

-- the steps at the places are of threads that there are, and none is the last that can be counted
abbrev pub ArePlacedBetween : ℕ → List Place → Type 0
ArePlacedBetween n ps = EachPlace ps (length ps) (λ p. (p.thread < n) × (p.position + 1 < 2 ^ 64))

-- the least positions at or above the old ones with the steps at the first n places inside
pub record IsRaised (old new : List ℕ) (ps : List Place) (n : ℕ) : Type 0 where
  pub size : length new ≡ length old
  pub above : (u : ℕ) → cut_of old u ≤ cut_of new u
  pub inside : EachPlace ps n (λ p. p.position < cut_of new p.thread)
  pub least : (c : Cut) → ((u : ℕ) → cut_of old u ≤ c u) → EachPlace ps n (λ p. p.position < c p.thread) → (u : ℕ) → cut_of new u ≤ c u

-- the greatest positions at or below the old ones with the steps at the first n places outside
pub record IsLowered (old new : List ℕ) (ps : List Place) (n : ℕ) : Type 0 where
  pub size : length new ≡ length old
  pub below : (u : ℕ) → cut_of new u ≤ cut_of old u
  pub outside : EachPlace ps n (λ p. cut_of new p.thread ≤ p.position)
  pub greatest : (c : Cut) → ((u : ℕ) → c u ≤ cut_of old u) → EachPlace ps n (λ p. c p.thread ≤ p.position) → (u : ℕ) → c u ≤ cut_of new u
