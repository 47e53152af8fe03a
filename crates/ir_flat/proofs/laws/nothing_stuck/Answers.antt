use Rattle.ir_flat.proofs.Runs.{guest_run_not_stuck}
use Rattle.ir_flat.proofs.laws.nothing_stuck.Goals as goal

pub returns : goal.returns
returns c = guest_run_not_stuck
