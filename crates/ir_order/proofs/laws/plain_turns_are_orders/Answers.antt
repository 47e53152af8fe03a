use Rattle.ir_order.proofs.OneRun.{plain_turns_are_orders}
use Rattle.ir_order.proofs.laws.plain_turns_are_orders.Goals as goal

pub returns : goal.returns
returns c = plain_turns_are_orders
