use Rattle.ir_picture.proofs.Unrolled.{run_has_no_circle}
use Rattle.ir_picture.proofs.laws.runs_have_no_circle.Goals as goal

pub returns : goal.returns
returns c = run_has_no_circle
