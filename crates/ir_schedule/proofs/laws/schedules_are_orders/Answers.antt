use Rattle.ir_schedule.proofs.Orders.{schedules_are_orders}
use Rattle.ir_schedule.proofs.laws.schedules_are_orders.Goals as goal

pub returns : goal.returns
returns c = schedules_are_orders
