use Rattle.ir_within.proofs.Firsts.{each_class_is_listed}
use Rattle.ir_within.proofs.laws.each_class_is_listed.Goals as goal

pub returns : goal.returns
returns c = each_class_is_listed
