-- States that are kept for moves to begin at.
use Rattle.std.specs.Prelude.{⊤, List, [], ◌∷◌}
use Rattle.ir_fit.specs.Fit.{FittedTrace}
use Rattle.ir_weave.specs.Standing.{Standing, StandsAtCut, flat_in, positions}
use Rattle.ir_checkpoint.specs.Keeping.{Keeping, KeptState}

-- the guest at a cut, its own positions
abbrev pub StandsAtState : FittedTrace → Standing → Type 0
StandsAtState f s = StandsAtCut f (positions (flat_in f s)) s

-- the states that were asked to be kept, and those that moves have passed; the start is among both
pub record Checkpoints : Type 0 where
  pub asked : Keeping
  pub passed : Keeping

-- each is the guest at some consistent cut
abbrev pub AllStandAtStates : FittedTrace → List KeptState → Type 0
AllStandAtStates f [] = ⊤
AllStandAtStates f (k ∷ others) = StandsAtState f k.state × AllStandAtStates f others

pub record AreCheckpoints (f : FittedTrace) (c : Checkpoints) : Type 0 where
  pub asked : AllStandAtStates f c.asked.kept
  pub passed : AllStandAtStates f c.passed.kept
