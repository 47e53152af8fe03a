use Rattle.ir_run_picture.proofs.Lasts.{box_first_event_inside}
use Rattle.ir_run_picture.proofs.Going.{box_last_event_inside, event_has_last_step}
use Rattle.std.proofs.Common.{ℕ, Option, refl, subst}
use Rattle.ir_run_picture.specs.Steps.{IsLastStep}
use Rattle.ir_past.specs.Past.{event_at}
use Rattle.ir_run_picture.specs.Spans.{last_event}
use Rattle.ir_run_picture.proofs.spans.span_of.Goals as goal

pub step_of-first-requires : goal.step_of-first-requires
step_of-first-requires c = box_first_event_inside c.args.fitted.now c.known.ensures.run c.args.own.now c.requires

pub last_step-requires : goal.last_step-requires
last_step-requires c = record { inside = box_last_event_inside c.args.fitted.now c.known.ensures.run c.args.own.now c.requires }

pub returns-in-None : goal.returns-in-None
returns-in-None c = absurd (event_has_last_step c.args.fitted.now c.known.ensures.run c.args.own.now.thread (last_event c.args.own.now)
    (event_at c.args.fitted.now.recorded c.args.own.now.thread (last_event c.args.own.now)) refl
    (subst (λ (x : Option ℕ). IsLastStep c.args.fitted.now c.args.own.now.thread (last_event c.args.own.now)
    (event_at c.args.fitted.now.recorded c.args.own.now.thread (last_event c.args.own.now)) x) c.in-None.is c.last_step.ensures))
