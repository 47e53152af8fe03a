use Rattle.ir_run_picture.proofs.Lasts.{box_first_event_inside}
use Rattle.ir_run_picture.proofs.drawing.drawn_of.Goals as goal

pub last_step-last-requires : goal.last_step-last-requires
last_step-last-requires c = record { inside = box_first_event_inside c.args.fitted.now c.known.ensures.run c.args.own.now.events c.requires }
