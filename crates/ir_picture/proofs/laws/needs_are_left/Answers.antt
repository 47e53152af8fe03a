use Rattle.ir_picture.proofs.Left.{needs_placed_to_left}
use Rattle.ir_picture.proofs.laws.needs_are_left.Goals as goal

pub returns : goal.returns
returns c = needs_placed_to_left
