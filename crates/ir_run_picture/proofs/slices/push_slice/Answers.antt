use Rattle.std.proofs.Common.{◌≡◌, ◌++◌, ◌∙◌, List, ap, subst, sym}
use Rattle.std.proofs.lemmas.Result.{on_ok_weaker}
use Rattle.ir_trace.specs.Recorded.{Recorded}
use Rattle.ir_past.specs.Past.{IsRising}
use Rattle.ir_picture.specs.Numbers.{events_in}
use Rattle.ir_picture.specs.Chrome.{stale_at}
use Rattle.ir_run_picture.specs.Chrome.{drawn_slice}
use Rattle.ir_run_picture.specs.Resting.{stale_of_rests}
use Rattle.ir_run_picture.specs.declared.resting.Resting.{Resting}
use Rattle.ir_run_picture.proofs.Lasts.{box_first_event_inside}
use Rattle.ir_run_picture.proofs.slices.push_slice.Goals as goal

pub resting_of-requires-clause-rising : goal.resting_of-requires-clause-rising
resting_of-requires-clause-rising c = subst IsRising (sym c.deref-2.ensures.value) c.requires.rising

pub resting_of-requires-clause-kept : goal.resting_of-requires-clause-kept
resting_of-requires-clause-kept c = c.deref-2.ensures.value ∙ c.requires.kept ∙ ap stale_of_rests (sym c.deref.ensures.value)

pub push_drawn-requires-clause-inside : goal.push_drawn-requires-clause-inside
push_drawn-requires-clause-inside c = box_first_event_inside c.args.fitted.now c.known.ensures.run c.args.drawn.now.own.events c.requires.box_of

pub returns : goal.returns
returns c =
    let f = c.args.fitted.now in
    let d = c.args.drawn.now in
    let same : c.events_in-events.result.now ≡ events_in f.recorded d.own.events =
    c.events_in-events.ensures ∙ ap (λ (r : Recorded). events_in r d.own.events) c.trace.ensures.value in
    let resting = c.resting_of.ensures
    ∙ ap (λ (xs : List Resting). stale_at (λ (x : Resting). x.write) xs d.own.events.thread d.own.events.event) c.deref.ensures.value in
    on_ok_weaker c.push_drawn.result
    (λ e. e ∙ (λ i. c.args.text.now.items ++ drawn_slice f (same i) (resting i) d))
    c.push_drawn.ensures
