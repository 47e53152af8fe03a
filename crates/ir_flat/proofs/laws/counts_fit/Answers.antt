use Rattle.ir_flat.proofs.Runs.{run_object_counts_fit}
use Rattle.ir_flat.proofs.laws.counts_fit.Goals as goal

pub returns : goal.returns
returns c = run_object_counts_fit
