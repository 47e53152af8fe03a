use Rattle.ir_run_picture.proofs.First.{behind_is_earlier}
use Rattle.ir_run_picture.proofs.laws.behind_comes_first.Goals as goal

pub returns : goal.returns
returns c = behind_is_earlier
