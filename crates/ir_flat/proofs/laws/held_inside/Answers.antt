use Rattle.ir_flat.proofs.Runs.{run_inside_is_held}
use Rattle.ir_flat.proofs.laws.held_inside.Goals as goal

pub returns : goal.returns
returns c = run_inside_is_held
