use Rattle.std.specs.List.{slice_index_or}
use Rattle.ir_flat.specs.Flat.{idle}
use Rattle.ir_replay.proofs.Below.{CountsBelow}
use Rattle.ir_replay.proofs.moves.is_alone.Given as goal

abbrev pub invariant-loop-t : goal.invariant-loop-t
invariant-loop-t l = CountsBelow l.target (λ u. (slice_index_or l.threads u idle).steps) l.t l.below
