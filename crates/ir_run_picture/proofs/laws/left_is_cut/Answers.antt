use Rattle.ir_run_picture.proofs.FirstRight.{left_of_x_is_cut}
use Rattle.ir_run_picture.proofs.laws.left_is_cut.Goals as goal

pub returns : goal.returns
returns c = left_of_x_is_cut
