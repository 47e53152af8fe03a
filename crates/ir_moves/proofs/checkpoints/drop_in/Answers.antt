use Rattle.std.proofs.Common.{sym, subst}
use Rattle.ir_checkpoint.specs.Keeping.{Keeping}
use Rattle.ir_moves.specs.Checkpoints.{AllStandAtStates}
use Rattle.ir_moves.proofs.Keepers.{all_stand_without}
use Rattle.ir_moves.proofs.checkpoints.drop_in.Goals as goal

pub returns-then-is_some : goal.returns-then-is_some
returns-then-is_some c =
    subst (λ (k : Keeping). AllStandAtStates c.args.fitted.now k.kept) (sym c.drop_kept.ensures)
    (all_stand_without c.args.fitted.now c.args.keeper.now.kept c.args.number c.requires)
