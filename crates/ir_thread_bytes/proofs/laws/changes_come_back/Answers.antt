use Rattle.ir_thread_bytes.proofs.Back.{thawed-changes}
use Rattle.ir_thread_bytes.proofs.laws.changes_come_back.Goals as goal

pub returns : goal.returns
returns c = thawed-changes
