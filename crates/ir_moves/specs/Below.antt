-- States that are kept in which a thread is below a position.
use Rattle.std.specs.Prelude.{◌≡◌, ◌<◌, ◌⊎◌, ℕ, List, Some}
use Rattle.ir_cut.specs.Positions.{cut_of}
use Rattle.ir_fit.specs.Fit.{FittedTrace}
use Rattle.ir_weave.specs.Standing.{Standing, flat_in, positions}
use Rattle.ir_checkpoint.specs.Keeping.{KeptState, kept_as, cut_in}
use Rattle.ir_moves.specs.declared.below.Found.{Found}

-- a state that is kept, and the position of thread t in it, which is below the given position
pub record IsStateBelow (kept : List KeptState) (t position : ℕ) (found : Found) : Type 0 where
  pub one : KeptState
  pub is : kept_as found.number kept ≡ Some one
  pub there : cut_of (cut_in one) t ≡ found.position
  pub below : found.position < position

-- thread t is below the position in a state, or has taken no step
abbrev pub IsBelowState : FittedTrace → ℕ → ℕ → Standing → Type 0
IsBelowState f t position s = (positions (flat_in f s) t < position) ⊎ (positions (flat_in f s) t ≡ 0)
