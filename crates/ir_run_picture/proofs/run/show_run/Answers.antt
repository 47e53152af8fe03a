use Rattle.std.proofs.lemmas.Result.{err_from_is_err_and}
use Rattle.ir_files.proofs.CallerLemmas.{if_err_handed_on}
use Rattle.ir_opened.proofs.CallerLemmas.{run_trace_is_coherent}
use Rattle.ir_past.specs.declared.ask_err.AskErr.TheVariants.{Unwritten}
use Rattle.ir_picture.proofs.CallerLemmas.{answered_implied, not_answered_implied}
use Rattle.ir_run_picture.specs.Answers.{IsFormOfRun, IsRunTold}
use Rattle.ir_run_picture.proofs.Shown.{picture_form_is_answer, run_form_status_is_answer}
use Rattle.ir_run_picture.proofs.run.show_run.Goals as goal

pub show_picture-requires-clause-coherent : goal.show_picture-requires-clause-coherent
show_picture-requires-clause-coherent g c = run_trace_is_coherent c.args.fitted.now c.known.ensures.run

pub show_picture-requires-clause-kept : goal.show_picture-requires-clause-kept
show_picture-requires-clause-kept g c = c.in_ok-shown.ensures.drawn.stale

pub returns-in_err-show_picture-clause-fails : goal.returns-in_err-show_picture-clause-fails
returns-in_err-show_picture-clause-fails g c =
    let f = c.args.fitted.now in
    let asked = c.args.asked.now in
    let p = err_from_is_err_and c.from_residual-in_err-show_picture.result c.from_residual-in_err-show_picture.ensures.1 in
    let e = c.in_err-show_picture.field-0.0 in
    if_err_handed_on _ c.from_residual-in_err-show_picture.result (Unwritten e) p.0 p.1 p.2
    (not_answered_implied (IsFormOfRun asked.form f asked.around c.in_ok-shown.shown.picture c.in_ok-shown.shown.kept.items) (IsRunTold asked f) e _
    (λ s text is. (
      c.in_ok-shown.ensures.there,
      picture_form_is_answer asked f s text c.in_ok-shown.shown.picture c.in_ok-shown.shown.kept.items c.in_ok-shown.ensures.drawn is,
    ))
    c.in_err-show_picture.ensures.fails)

pub returns-clause-ok : goal.returns-clause-ok
returns-clause-ok g c =
    let f = c.args.fitted.now in
    let asked = c.args.asked.now in
    answered_implied (IsFormOfRun asked.form f asked.around c.in_ok-shown.shown.picture c.in_ok-shown.shown.kept.items) (IsRunTold asked f)
    c.in_ok-show_picture.field-0 _ (λ text is. (
      c.in_ok-shown.ensures.there,
      picture_form_is_answer asked f c.in_ok-show_picture.field-0 text c.in_ok-shown.shown.picture c.in_ok-shown.shown.kept.items c.in_ok-shown.ensures.drawn is,
    ))
    c.in_ok-show_picture.ensures.ok

pub returns-clause-status : goal.returns-clause-status
returns-clause-status g c =
    let asked = c.args.asked.now in
    let answered = c.in_ok-show_picture.ensures.ok in
    run_form_status_is_answer asked.form c.args.fitted.now asked.around c.in_ok-shown.shown.picture c.in_ok-shown.shown.kept.items c.in_ok-show_picture.field-0
    answered.text answered.is
