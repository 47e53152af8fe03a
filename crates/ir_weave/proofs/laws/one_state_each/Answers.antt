use Rattle.ir_weave.proofs.Unique.{one_state_at_each_cut}
use Rattle.ir_weave.proofs.laws.one_state_each.Goals as goal

pub returns : goal.returns
returns c = one_state_at_each_cut
