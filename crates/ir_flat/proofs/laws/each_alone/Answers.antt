use Rattle.ir_flat.proofs.Replies.{each_thread_runs_alone}
use Rattle.ir_flat.proofs.laws.each_alone.Goals as goal

pub returns : goal.returns
returns c = each_thread_runs_alone
