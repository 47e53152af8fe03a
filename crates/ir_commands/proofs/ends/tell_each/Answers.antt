use Rattle.ir_commands.proofs.CallerLemmas.{goes_on_then}
use Rattle.ir_commands.proofs.ends.tell_each.Goals as goal

pub loop-number-preserved : goal.loop-number-preserved
loop-number-preserved g c = goes_on_then _ _ _ c.loop-number.invariant c.tell_end.ensures
