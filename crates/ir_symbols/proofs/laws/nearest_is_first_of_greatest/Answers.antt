use Rattle.ir_symbols.proofs.Nearest.{nearest_iff_is_nearest}
use Rattle.ir_symbols.proofs.laws.nearest_is_first_of_greatest.Goals as goal

pub returns : goal.returns
returns c = nearest_iff_is_nearest
