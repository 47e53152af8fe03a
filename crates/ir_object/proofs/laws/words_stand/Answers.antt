use Rattle.ir_object.proofs.Stands.{words_stand}
use Rattle.ir_object.proofs.laws.words_stand.Goals as goal

pub returns : goal.returns
returns c = words_stand
