use Rattle.ir_past.proofs.Leaving.{complete_entry_is_left}
use Rattle.ir_past.proofs.laws.entries_left.Goals as goal

pub returns : goal.returns
returns c = complete_entry_is_left
