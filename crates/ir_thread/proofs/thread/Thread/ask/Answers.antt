use Rattle.ir_thread.proofs.Asked.{equal_ask_permitted}
use Rattle.ir_thread.proofs.thread.Thread.ask.Goals as goal

pub returns-clause-permits : goal.returns-clause-permits
returns-clause-permits c = equal_ask_permitted _ _ _ c.asked.ensures
