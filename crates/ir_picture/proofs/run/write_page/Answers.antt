use Rattle.std.proofs.Common.{◌≡◌, length, arith, inr, ap, ◌∙◌}
use Rattle.std.proofs.lemmas.Result.{err_from_is_err_and, IfErr-weaker}
use Rattle.ir_files.proofs.CallerLemmas.{if_err_handed_on}
use Rattle.ir_files.specs.Writers.{writer_of}
use Rattle.ir_files.specs.declared.exit_status.ExitStatus.TheVariants.{Done}
use Rattle.ir_past.specs.Answers.{NotAnswered, Stops}
use Rattle.ir_past.specs.declared.past_err.PastErr.TheVariants.{NoMem}
use Rattle.ir_past.proofs.CallerLemmas.{answered_if_written, no_memory_no_answer, not_answered_if_stopped}
use Rattle.ir_picture.specs.Answers.{IsForm, many_line}
use Rattle.ir_picture.specs.declared.asked.Form.TheVariants as form
use Rattle.ir_picture.proofs.ViewAnswers.{framed_rows_are_page}
use Rattle.ir_picture.proofs.run.write_page.Goals as goal

pub returns-in_err-page-clause-fails : goal.returns-in_err-page-clause-fails
returns-in_err-page-clause-fails g c =
    let p = err_from_is_err_and c.from_residual-in_err-page.result c.from_residual-in_err-page.ensures.1 in
    if_err_handed_on _ c.from_residual-in_err-page.result NoMem p.0 p.1 p.2
    (no_memory_no_answer (IsForm form.Page c.args.trace.now c.args.near.now c.args.picture.now) (g.O.Sink.written c.args.out.now)
    (g.O.Sink.broken c.args.out.now) c.requires.works)

pub returns-in_err-write_data-clause-fails : goal.returns-in_err-write_data-clause-fails
returns-in_err-write_data-clause-fails g c =
    let p = err_from_is_err_and c.from_residual-in_err-write_data.result c.from_residual-in_err-write_data.ensures.1 in
    let e = c.in_err-write_data.field-0.0 in
    if_err_handed_on _ c.from_residual-in_err-write_data.result e p.0 p.1 p.2
    (not_answered_if_stopped (IsForm form.Page c.args.trace.now c.args.near.now c.args.picture.now) Done _ e _
    (framed_rows_are_page c.args.trace.now c.args.near.now c.args.picture.now _ _ (omega (arith, c.if-len-gt-MOST_BOXES.false)) c.in_ok-page.ensures.before c.in_ok-page.ensures.after)
    c.in_err-write_data.ensures.fails)

pub returns-clause-ok : goal.returns-clause-ok
returns-clause-ok g c =
    answered_if_written (IsForm form.Page c.args.trace.now c.args.near.now c.args.picture.now) Done (g.O.Sink.written c.args.out.now)
    (g.O.Sink.written c.write_data.new.out) (g.O.Sink.broken c.write_data.new.out) _
    (framed_rows_are_page c.args.trace.now c.args.near.now c.args.picture.now _ _ (omega (arith, c.if-len-gt-MOST_BOXES.false)) c.in_ok-page.ensures.before c.in_ok-page.ensures.after)
    c.in_ok-write_data.ensures.ok c.in_ok-write_data.ensures.works

pub returns-then-len-gt-MOST_BOXES-clause-fails : goal.returns-then-len-gt-MOST_BOXES-clause-fails
returns-then-len-gt-MOST_BOXES-clause-fails g c =
    let is = IsForm form.Page c.args.trace.now c.args.near.now c.args.picture.now in
    let a = c.in_ok-many_answer.field-0 in
    let w = writer_of (g.O.Sink.written c.args.out.now) (g.O.Sink.written c.put_answer.new.out) (g.O.Sink.broken c.put_answer.new.out) in
    let count : c.len-then-len-gt-MOST_BOXES.result ≡ length c.args.picture.now.boxes.items = omega (arith, c.len-then-len-gt-MOST_BOXES.ensures) in
    IfErr-weaker c.put_answer.result (λ e. Stops e w a.text.items) (λ e. NotAnswered is e w)
    (λ e stops. not_answered_if_stopped is a.status a.text.items e w
    (inr (omega (arith, c.if-len-gt-MOST_BOXES.true), c.in_ok-many_answer.ensures.0, c.in_ok-many_answer.ensures.1 ∙ ap many_line count)) stops)
    c.put_answer.ensures.fails
