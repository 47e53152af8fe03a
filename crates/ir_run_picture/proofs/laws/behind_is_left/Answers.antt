use Rattle.ir_run_picture.proofs.Behind.{behind_starts_left}
use Rattle.ir_run_picture.proofs.laws.behind_is_left.Goals as goal

pub returns : goal.returns
returns c = behind_starts_left
