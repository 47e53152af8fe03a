use Rattle.ir_graph.proofs.CallerLemmas.{hang_never_completes}
use Rattle.ir_explore.proofs.laws.hangs_never_complete.Goals as goal

pub returns : goal.returns
returns c = hang_never_completes
