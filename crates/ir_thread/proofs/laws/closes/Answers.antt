use Rattle.ir_thread.proofs.Lawful.{thread_machine_lawful, thread_machine_closing}
use Rattle.ir_thread.proofs.laws.closes.Goals as goal

pub returns : goal.returns
returns c = λ code. (thread_machine_lawful code, thread_machine_closing code)
