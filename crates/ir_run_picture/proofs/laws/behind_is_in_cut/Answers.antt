use Rattle.ir_run_picture.proofs.InCut.{behind_in_cut_too}
use Rattle.ir_run_picture.proofs.laws.behind_is_in_cut.Goals as goal

pub returns : goal.returns
returns c = behind_in_cut_too
