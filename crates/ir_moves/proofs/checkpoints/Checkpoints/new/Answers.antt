use Rattle.ir_moves.proofs.Keepers.{new_keeping_stands}
use Rattle.ir_moves.proofs.checkpoints.Checkpoints.new.Goals as goal

pub returns : goal.returns
returns c = record {
  asked = new_keeping_stands c.args.fitted.now c.in_ok-new.field-0 c.in_ok-new.ensures;
  passed = new_keeping_stands c.args.fitted.now c.in_ok-new-2.field-0 c.in_ok-new-2.ensures;
}
