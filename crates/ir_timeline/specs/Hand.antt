-- Threads and objects in hand, and states that are kept beside them.
use Rattle.ir_fit.specs.Fit.{FittedTrace}
use Rattle.ir_moves.specs.Checkpoints.{AreCheckpoints, StandsAtState}
use Rattle.ir_timeline.specs.declared.hand.InHand.{InHand}
use Rattle.std.specs.Prelude.{◌≡◌, ℕ, List, length}
use Rattle.ir_cut.specs.Positions.{IsConsistentCut, threads_of}

-- they are the guest's at a consistent cut of the run, and each state that is kept is so too
pub record IsInHand (f : FittedTrace) (hand : InHand) : Type 0 where
  pub stands : StandsAtState f hand.state
  pub checkpoints : AreCheckpoints f hand.checkpoints

-- a consistent cut of the guest's threads
abbrev pub IsCutOf : FittedTrace → List ℕ → Type 0
IsCutOf f c = (length c ≡ threads_of f) × IsConsistentCut f c
