use Rattle.ir_thread_bytes.proofs.Back.{thawed-frozen}
use Rattle.ir_thread_bytes.proofs.laws.comes_back.Goals as goal

pub returns : goal.returns
returns c = thawed-frozen
