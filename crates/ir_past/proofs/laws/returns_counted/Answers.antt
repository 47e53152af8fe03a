use Rattle.ir_past.proofs.Returning.{returns_counted}
use Rattle.ir_past.proofs.laws.returns_counted.Goals as goal

pub returns : goal.returns
returns c = returns_counted
