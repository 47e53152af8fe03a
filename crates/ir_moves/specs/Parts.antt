-- Cuts on the way of a move.
use Rattle.std.specs.Prelude.{◌≡◌, ◌≤◌, ℕ, List, length}
use Rattle.ir_runs.specs.Run.{Cut}
use Rattle.ir_fit.specs.Fit.{FittedTrace}
use Rattle.ir_cut.specs.Positions.{IsConsistentCut, cut_of}

-- a consistent cut between these positions
pub record IsOnWay (f : FittedTrace) (low high : Cut) (cut : List ℕ) : Type 0 where
  pub size : length cut ≡ length f.guest.entries
  pub consistent : IsConsistentCut f cut
  pub above : (t : ℕ) → low t ≤ cut_of cut t
  pub below : (t : ℕ) → cut_of cut t ≤ high t
