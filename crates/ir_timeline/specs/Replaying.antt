-- A guest with the trace of one of its runs, and its threads and objects in hand at one consistent cut.
use Rattle.std.specs.Prelude.{ℕ, List}
use Rattle.ir_fit.specs.Fit.{FittedTrace, HasRun}
use Rattle.ir_cut.specs.Positions.{cut_of}
use Rattle.ir_weave.specs.Standing.{Standing, StandsAtCut}
use Rattle.ir_moves.specs.Checkpoints.{StandsAtState}

-- the trace, and the threads and objects in hand
pub record Replaying : Type 0 where
  pub fitted : FittedTrace
  pub state : Standing

-- there is a run, and the threads and objects are the guest's at a consistent cut of it
pub record IsReplaying (r : Replaying) : Type 0 where
  pub run : HasRun r.fitted
  pub stands : StandsAtState r.fitted r.state

-- the guest at this cut
abbrev pub IsReplayedTo : Replaying → List ℕ → Type 0
IsReplayedTo r at = StandsAtCut r.fitted (cut_of at) r.state
