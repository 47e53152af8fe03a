use Rattle.std.proofs.Common.{◌<◌, ◌≤◌, ℕ, length, subst}
use Rattle.std.specs.List.{slice_index_or}
use Rattle.ir_flat.specs.Flat.{idle}
use Rattle.ir_cut.specs.Positions.{cut_of}
use Rattle.ir_replay.proofs.Reached.{between_stands_reached}
use Rattle.ir_replay.proofs.moves.advance.Goals as goal

pub returns-clause-ok : goal.returns-clause-ok
returns-clause-ok g c =
    between_stands_reached c.args.fitted.now c.args.target.now c.args.state c.rounds.state c.rounds.invariant c.requires.target.0
    (subst (λ xs. (t : ℕ) → t < length xs → cut_of c.args.target.now t ≤ (slice_index_or xs t idle).steps) c.threads.ensures
    (c.is_there.ensures.there c.rounds-test.false))
