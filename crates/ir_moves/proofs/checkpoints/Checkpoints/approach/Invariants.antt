use Rattle.std.proofs.Common.{◌≤◌, ℕ}
use Rattle.ir_cut.specs.Positions.{cut_of}
use Rattle.ir_weave.specs.Standing.{flat_in, positions}
use Rattle.ir_moves.specs.Checkpoints.{AreCheckpoints, StandsAtState}
use Rattle.ir_moves.proofs.checkpoints.Checkpoints.approach.Given as goal

abbrev pub invariant-stops : goal.invariant-stops
invariant-stops g l = record {
  checkpoints : AreCheckpoints l.fitted l.self;
  stands : StandsAtState l.fitted l.state;
  below : (t : ℕ) → positions (flat_in l.fitted l.state) t ≤ cut_of l.target t;
}
