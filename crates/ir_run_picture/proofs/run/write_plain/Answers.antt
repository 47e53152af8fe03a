use Rattle.std.proofs.Common.{◌++◌, ℕ, List, sym, subst}
use Rattle.std.proofs.lemmas.Result.{err_from_is_err_and}
use Rattle.ir_files.proofs.CallerLemmas.{if_err_handed_on}
use Rattle.ir_files.specs.declared.exit_status.ExitStatus.TheVariants.{Done}
use Rattle.ir_past.specs.declared.past_err.PastErr.TheVariants.{NoMem}
use Rattle.ir_past.proofs.CallerLemmas.{answered_if_written, no_memory_no_answer, not_answered_if_stopped}
use Rattle.ir_picture.specs.Progress.{AreBoxesOf}
use Rattle.ir_picture.specs.declared.asked.Form.TheVariants as form
use Rattle.ir_picture.specs.declared.placed_box.PlacedBox.{PlacedBox}
use Rattle.ir_run_picture.specs.Answers.{IsFormOfRun}
use Rattle.ir_run_picture.specs.Numbers.{run_data_rows}
use Rattle.ir_run_picture.specs.Steps.{AreDrawn}
use Rattle.ir_run_picture.specs.declared.resting.Resting.{Resting}
use Rattle.ir_run_picture.proofs.Shown.{framed_run_rows_data}
use Rattle.ir_run_picture.proofs.run.write_plain.Goals as goal

pub all_drawn-requires : goal.all_drawn-requires
all_drawn-requires g c = subst (AreBoxesOf c.args.fitted.now.recorded) (sym c.deref.ensures.value) c.requires.of_trace.boxes

pub write_data-requires-clause-drawn : goal.write_data-requires-clause-drawn
write_data-requires-clause-drawn g c =
    let f = c.args.fitted.now in
    let p = c.args.shown.now.picture in
    subst (AreDrawn f p.boxes.items) (sym c.deref-2.ensures.value)
    (subst (λ (bs : List PlacedBox). AreDrawn f bs c.in_ok-drawn.drawn.items) c.deref.ensures.value c.in_ok-drawn.ensures)

pub returns-in_err-frame-clause-fails : goal.returns-in_err-frame-clause-fails
returns-in_err-frame-clause-fails g c =
    let p = err_from_is_err_and c.from_residual-in_err-frame.result c.from_residual-in_err-frame.ensures.1 in
    if_err_handed_on _ c.from_residual-in_err-frame.result NoMem p.0 p.1 p.2
    (no_memory_no_answer (IsFormOfRun form.Data c.args.fitted.now c.args.near.now c.args.shown.now.picture c.args.shown.now.kept.items)
    (g.O.Sink.written c.args.out.now) (g.O.Sink.broken c.args.out.now) c.requires.works)

pub returns-in_err-write_data-clause-fails : goal.returns-in_err-write_data-clause-fails
returns-in_err-write_data-clause-fails g c =
    let q = err_from_is_err_and c.from_residual-in_err-write_data.result c.from_residual-in_err-write_data.ensures.1 in
    let e = c.in_err-write_data.field-0.0 in
    let f = c.args.fitted.now in
    let near = c.args.near.now in
    let p = c.args.shown.now.picture in
    let text : List ℕ = c.in_ok-frame.frame.before.items
    ++ (run_data_rows f near p c.deref-2.result.now c.deref-3.result.now ++ c.in_ok-frame.frame.after.items) in
    if_err_handed_on _ c.from_residual-in_err-write_data.result e q.0 q.1 q.2
    (not_answered_if_stopped (IsFormOfRun form.Data f near p c.args.shown.now.kept.items) Done text e _
    (subst (λ (ks : List Resting). IsFormOfRun form.Data f near p ks Done text) c.deref-3.ensures.value
    (framed_run_rows_data f near p c.deref-2.result.now c.deref-3.result.now c.in_ok-frame.frame.before.items c.in_ok-frame.frame.after.items
    (subst (AreDrawn f p.boxes.items) (sym c.deref-2.ensures.value)
    (subst (λ (bs : List PlacedBox). AreDrawn f bs c.in_ok-drawn.drawn.items) c.deref.ensures.value c.in_ok-drawn.ensures))
    c.in_ok-frame.ensures.before c.in_ok-frame.ensures.after))
    c.in_err-write_data.ensures.fails)

pub returns-clause-ok : goal.returns-clause-ok
returns-clause-ok g c =
    let f = c.args.fitted.now in
    let near = c.args.near.now in
    let p = c.args.shown.now.picture in
    let text : List ℕ = c.in_ok-frame.frame.before.items
    ++ (run_data_rows f near p c.deref-2.result.now c.deref-3.result.now ++ c.in_ok-frame.frame.after.items) in
    answered_if_written (IsFormOfRun form.Data f near p c.args.shown.now.kept.items) Done (g.O.Sink.written c.args.out.now)
    (g.O.Sink.written c.write_data.new.out) (g.O.Sink.broken c.write_data.new.out) text
    (subst (λ (ks : List Resting). IsFormOfRun form.Data f near p ks Done text) c.deref-3.ensures.value
    (framed_run_rows_data f near p c.deref-2.result.now c.deref-3.result.now c.in_ok-frame.frame.before.items c.in_ok-frame.frame.after.items
    (subst (AreDrawn f p.boxes.items) (sym c.deref-2.ensures.value)
    (subst (λ (bs : List PlacedBox). AreDrawn f bs c.in_ok-drawn.drawn.items) c.deref.ensures.value c.in_ok-drawn.ensures))
    c.in_ok-frame.ensures.before c.in_ok-frame.ensures.after))
    c.in_ok-write_data.ensures.ok c.in_ok-write_data.ensures.works
