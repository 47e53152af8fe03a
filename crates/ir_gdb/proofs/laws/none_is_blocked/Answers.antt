use Rattle.ir_gdb.proofs.Unpassed.{none_meets_on_way}
use Rattle.ir_gdb.proofs.laws.none_is_blocked.Goals as goal

pub returns : goal.returns
returns c = λ run s t d each cut stands below stops comes none. none_meets_on_way run s stands d t each cut comes none
