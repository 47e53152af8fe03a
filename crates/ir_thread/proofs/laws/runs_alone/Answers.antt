use Rattle.ir_thread.proofs.Alone.{lone_run_after_replies}
use Rattle.ir_thread.proofs.laws.runs_alone.Goals as goal

pub returns : goal.returns
returns c = λ code s replies ok. lone_run_after_replies code s replies ok
