use Rattle.ir_past.proofs.Shown.{answer_status_no_failure}
use Rattle.ir_past.proofs.asking.ask_trace.Goals as goal

pub returns-in-Ok-clause-failed : goal.returns-in-Ok-clause-failed
returns-in-Ok-clause-failed g c = λ failed. absurd (answer_status_no_failure c.in-Ok.status c.in-Ok.ensures.status failed)
