use Rattle.std.proofs.Common.{◌≡◌, ◌<◌, ℕ, length, slice_index_or, subst}
use Rattle.ir_flat.specs.Flat.{idle}
use Rattle.ir_cut.specs.Positions.{cut_of}
use Rattle.ir_moves.proofs.Brought.{stands_at_target, stands_at_own_positions}
use Rattle.ir_moves.proofs.checkpoints.Checkpoints.bring.Goals as goal

pub returns-then-is_there-clause-there : goal.returns-then-is_there-clause-there
returns-then-is_there-clause-there g c =
    stands_at_target c.args.fitted.now c.args.target.now c.args.state.now c.requires.stands c.requires.target.0
    (subst (λ xs. (t : ℕ) → t < length xs → (slice_index_or xs t idle).steps ≡ cut_of c.args.target.now t) c.threads.ensures
    (c.is_there.ensures.there c.if-is_there.true))

pub returns-in-Ok-clause-stands : goal.returns-in-Ok-clause-stands
returns-in-Ok-clause-stands g c = stands_at_own_positions c.args.fitted.now (cut_of c.args.target.now) c.in-Ok.there c.in-Ok.ensures.ok
