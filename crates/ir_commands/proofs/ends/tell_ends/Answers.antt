use Rattle.ir_commands.proofs.CallerLemmas.{goes_on_then}
use Rattle.ir_commands.proofs.ends.tell_ends.Goals as goal

pub returns-then-has_unknown_call : goal.returns-then-has_unknown_call
returns-then-has_unknown_call g c = goes_on_then _ _ _ c.tell_each.ensures c.say.ensures.grows
