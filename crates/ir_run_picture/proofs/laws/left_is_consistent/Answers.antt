use Rattle.ir_run_picture.proofs.LeftCut.{left_of_x_is_consistent}
use Rattle.ir_run_picture.proofs.laws.left_is_consistent.Goals as goal

pub returns : goal.returns
returns c = left_of_x_is_consistent
