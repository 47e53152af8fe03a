use Rattle.ir_thread_bytes.proofs.Alike.{same_bytes_iff_looks}
use Rattle.ir_thread_bytes.proofs.laws.tells_apart.Goals as goal

pub returns : goal.returns
returns c = same_bytes_iff_looks
