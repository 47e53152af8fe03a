use Rattle.std.proofs.Common.{◌≡◌, ◌++◌, ◌∙◌, ap}
use Rattle.std.proofs.lemmas.Result.{on_ok_weaker}
use Rattle.ir_trace.specs.Recorded.{Recorded}
use Rattle.ir_picture.specs.Numbers.{events_in, row_with}
use Rattle.ir_picture.proofs.CallerLemmas.{box_puts_append_row}
use Rattle.ir_run_picture.specs.Numbers.{row_end}
use Rattle.ir_run_picture.proofs.Lasts.{box_first_event_inside}
use Rattle.ir_run_picture.proofs.rows.push_drawn.Goals as goal

pub push_row_end-requires : goal.push_row_end-requires
push_row_end-requires c = record { inside = box_first_event_inside c.args.fitted.now c.known.ensures.run c.args.drawn.now.own.events c.requires }

pub returns : goal.returns
returns c =
    let f = c.args.fitted.now in
    let d = c.args.drawn.now in
    let same : c.events_in-events.result.now ≡ events_in f.recorded d.own.events =
    c.events_in-events.ensures ∙ ap (λ (r : Recorded). events_in r d.own.events) c.trace.ensures.value in
    on_ok_weaker c.push_words.result
    (λ e. box_puts_append_row c.args.text.now.items c.events_in-events.result.now d.own (row_end f c.events_in-events.result.now d) _ _ _
    c.in_ok-push_box_start.ensures c.in_ok-push_row_end.ensures e
    ∙ (λ i. c.args.text.now.items ++ row_with (same i) d.own (row_end f (same i) d)))
    c.push_words.ensures
