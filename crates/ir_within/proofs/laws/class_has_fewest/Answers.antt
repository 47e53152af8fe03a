use Rattle.ir_within.proofs.Firsts.{class_has_fewest}
use Rattle.ir_within.proofs.laws.class_has_fewest.Goals as goal

pub returns : goal.returns
returns c = class_has_fewest
