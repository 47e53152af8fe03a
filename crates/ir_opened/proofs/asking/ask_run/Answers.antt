use Rattle.ir_past.proofs.CallerLemmas.{answer_status_no_failure}
use Rattle.ir_opened.proofs.asking.ask_run.Goals as goal

pub returns-in-Ok-clause-failed : goal.returns-in-Ok-clause-failed
returns-in-Ok-clause-failed g c = λ failed. absurd (answer_status_no_failure c.in-Ok.status c.in-Ok.ensures.status failed)
