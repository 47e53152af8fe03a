use Rattle.ir_opened.proofs.Left.{entering_event_has_leave}
use Rattle.ir_opened.proofs.laws.events_left.Goals as goal

pub returns : goal.returns
returns c = entering_event_has_leave
