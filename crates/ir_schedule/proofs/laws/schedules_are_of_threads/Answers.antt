use Rattle.ir_schedule.proofs.Orders.{schedules_of_threads}
use Rattle.ir_schedule.proofs.laws.schedules_are_of_threads.Goals as goal

pub returns : goal.returns
returns c = schedules_of_threads
