use Rattle.ir_flat.proofs.Keeps.{try_ask_fields_fit}
use Rattle.ir_flat.proofs.parts.Parts.try_to_enter.Goals as goal

pub enter-requires-clause-fits : goal.enter-requires-clause-fits
enter-requires-clause-fits c = try_ask_fields_fit _ c.args.t c.args.o c.requires.flat c.requires.thread c.requires.permits
