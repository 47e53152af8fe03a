use Rattle.std.proofs.lemmas.Result.{IfOk-weaker}
use Rattle.ir_moves.proofs.Lower.{found_kept_state_stands, found_kept_below}
use Rattle.ir_moves.proofs.below.restore_found.Goals as goal

pub returns-clause-stands : goal.returns-clause-stands
returns-clause-stands c =
    IfOk-weaker c.restore.result _ _
    (λ s. found_kept_state_stands c.args.fitted.now c.args.keeper.now.kept c.args.t c.args.position c.args.found s c.requires.kept c.requires.below)
    c.restore.ensures

pub returns-clause-below : goal.returns-clause-below
returns-clause-below c =
    IfOk-weaker c.restore.result _ _
    (λ s. found_kept_below c.args.fitted.now c.args.keeper.now.kept c.args.t c.args.position c.args.found s c.requires.below)
    c.restore.ensures
