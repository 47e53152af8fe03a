use Rattle.std.proofs.Common.{sym, subst}
use Rattle.ir_trace.specs.Recorded.{Recorded}
use Rattle.ir_past.specs.declared.place.Place.{Place}
use Rattle.ir_opened.specs.Positions.{IsInside}
use Rattle.ir_why.specs.Answers.{HasAsked}
use Rattle.ir_why.proofs.Within.{trace_event_is_inside}
use Rattle.ir_why.proofs.fit_run.text_asked.Goals as goal

pub text_there-requires : goal.text_there-requires
text_there-requires c =
    let f = c.args.fitted.now in
    let there : HasAsked f.recorded c.args.asked.now.what = subst (λ (r : Recorded). HasAsked r c.args.asked.now.what) c.trace.ensures.value c.in_ok-here.ensures.there in
    subst (λ (p : Place). IsInside f p.thread p.event) (sym c.in_ok-here.ensures.place)
    (trace_event_is_inside f c.known.ensures.run c.args.asked.now.what.thread c.args.asked.now.what.event there.thread there.event)
