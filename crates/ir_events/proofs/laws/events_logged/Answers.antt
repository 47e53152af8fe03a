use Rattle.ir_events.proofs.Again.{events_are_logged}
use Rattle.ir_events.proofs.laws.events_logged.Goals as goal

pub returns : goal.returns
returns c = events_are_logged
