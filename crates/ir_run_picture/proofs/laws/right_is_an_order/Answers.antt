use Rattle.ir_run_picture.proofs.Orders.{left_to_right_is_order}
use Rattle.ir_run_picture.proofs.laws.right_is_an_order.Goals as goal

pub returns : goal.returns
returns c = left_to_right_is_order
