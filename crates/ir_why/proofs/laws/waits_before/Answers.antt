use Rattle.ir_why.proofs.Earlier.{chain_waits_are_before}
use Rattle.ir_why.proofs.laws.waits_before.Goals as goal

pub returns : goal.returns
returns c = chain_waits_are_before
