use Rattle.ir_why.proofs.Earlier.{needed_left_before_cut}
use Rattle.ir_why.proofs.laws.needs_left_before.Goals as goal

pub returns : goal.returns
returns c = needed_left_before_cut
