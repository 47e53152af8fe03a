use Rattle.ir_explore.proofs.Fulfilled.{outcomes_decide}
use Rattle.ir_explore.proofs.conditions.outcomes_decide.Goals as goal

pub returns : goal.returns
returns c = outcomes_decide
