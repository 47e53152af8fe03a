use Rattle.std.proofs.lemmas.Result.{IfOk-weaker}
use Rattle.ir_moves.proofs.Keepers.{nearest_kept_stands, nearest_kept_below}
use Rattle.ir_moves.proofs.checkpoints.restore_in.Goals as goal

pub returns-clause-stands : goal.returns-clause-stands
returns-clause-stands c =
    IfOk-weaker c.restore.result _ _
    (λ s. nearest_kept_stands c.args.fitted.now c.args.keeper.now c.args.target.now c.args.number s c.requires.kept c.requires.nearest)
    c.restore.ensures

pub returns-clause-below : goal.returns-clause-below
returns-clause-below c =
    IfOk-weaker c.restore.result _ _
    (λ s. nearest_kept_below c.args.fitted.now c.args.keeper.now c.args.target.now c.args.number s c.requires.nearest)
    c.restore.ensures
