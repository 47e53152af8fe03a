use Rattle.std.proofs.Common.{◌∙◌, ap, inl, inr, refl, Result, sym, subst}
use Rattle.std.specs.Prelude.{MatchResult}
use Rattle.std.proofs.lemmas.Result.{err_from_is_err_and}
use Rattle.ir_files.proofs.CallerLemmas.{if_err_handed_on}
use Rattle.ir_files.specs.declared.exit_status.ExitStatus.{ExitStatus}
use Rattle.ir_past.specs.Replies.{is_of_answer}
use Rattle.ir_past.proofs.CallerLemmas.{answered_if_written, not_answered_if_stopped}
use Rattle.ir_picture.specs.Needs.{HasNoCircle, IsCircleAt}
use Rattle.ir_picture.specs.Answers.{IsPicture, IsForm, IsViewTold}
use Rattle.ir_picture.specs.declared.circle.Circle.{Circle}
use Rattle.ir_picture.specs.declared.picture.Picture.{Picture}
use Rattle.ir_past.specs.declared.ask_err.AskErr.TheVariants.{Unwritten}
use Rattle.ir_picture.proofs.OfTrace.{picture_is_of_trace}
use Rattle.ir_picture.proofs.ViewAnswers.{answered_implied, form_status_is_answer, not_answered_implied}
use Rattle.ir_picture.proofs.run.AskedTraceQuestion.print.Goals as goal

pub show_picture-requires-clause-of_trace : goal.show_picture-requires-clause-of_trace
show_picture-requires-clause-of_trace g c =
    let r = c.args.trace.now in
    let near = c.args.self.now.around in
    let drawn : HasNoCircle r × IsPicture r near c.in-Ok.picture =
    subst (λ (x : Result Picture Circle). MatchResult x (λ p. HasNoCircle r × IsPicture r near p) (λ d. IsCircleAt r d.thread d.event)) c.in-Ok.is
    c.in_ok-circle.ensures.ok in
    picture_is_of_trace r near c.in-Ok.picture drawn.1

pub returns-in_err-show_picture-in-Ok-clause-fails : goal.returns-in_err-show_picture-in-Ok-clause-fails
returns-in_err-show_picture-in-Ok-clause-fails g c =
    let r = c.args.trace.now in
    let asked = c.args.self.now in
    let drawn : HasNoCircle r × IsPicture r asked.around c.in-Ok.picture =
    subst (λ (x : Result Picture Circle). MatchResult x (λ p. HasNoCircle r × IsPicture r asked.around p) (λ d. IsCircleAt r d.thread d.event))
    c.in-Ok.is c.in_ok-circle.ensures.ok in
    let p = err_from_is_err_and c.from_residual-in_err-show_picture-in-Ok.result c.from_residual-in_err-show_picture-in-Ok.ensures.1 in
    let e = c.in_err-show_picture-in-Ok.field-0.0 in
    if_err_handed_on _ c.from_residual-in_err-show_picture-in-Ok.result (Unwritten e) p.0 p.1 p.2
    (not_answered_implied (IsForm asked.form r asked.around c.in-Ok.picture) (IsViewTold asked r) e _
    (λ s text is. (c.in_ok-circle.ensures.there, inr (drawn.0, (c.in-Ok.picture, drawn.1, is))))
    c.in_err-show_picture-in-Ok.ensures.fails)

pub returns-in_ok-show_picture-in-Ok-clause-ok : goal.returns-in_ok-show_picture-in-Ok-clause-ok
returns-in_ok-show_picture-in-Ok-clause-ok g c =
    let r = c.args.trace.now in
    let asked = c.args.self.now in
    let drawn : HasNoCircle r × IsPicture r asked.around c.in-Ok.picture =
    subst (λ (x : Result Picture Circle). MatchResult x (λ p. HasNoCircle r × IsPicture r asked.around p) (λ d. IsCircleAt r d.thread d.event))
    c.in-Ok.is c.in_ok-circle.ensures.ok in
    answered_implied (IsForm asked.form r asked.around c.in-Ok.picture) (IsViewTold asked r) c.in_ok-show_picture-in-Ok.field-0 _
    (λ text is. (c.in_ok-circle.ensures.there, inr (drawn.0, (c.in-Ok.picture, drawn.1, is))))
    c.in_ok-show_picture-in-Ok.ensures.ok

pub returns-in_err-put_answer-in-Err-clause-fails : goal.returns-in_err-put_answer-in-Err-clause-fails
returns-in_err-put_answer-in-Err-clause-fails g c =
    let r = c.args.trace.now in
    let asked = c.args.self.now in
    let circle : IsCircleAt r c.in-Err.circle.thread c.in-Err.circle.event =
    subst (λ (x : Result Picture Circle). MatchResult x (λ p. HasNoCircle r × IsPicture r asked.around p) (λ d. IsCircleAt r d.thread d.event))
    c.in-Err.is c.in_ok-circle.ensures.ok in
    let p = err_from_is_err_and c.from_residual-in_err-put_answer-in-Err.result c.from_residual-in_err-put_answer-in-Err.ensures.1 in
    let e = c.in_err-put_answer-in-Err.field-0.0 in
    if_err_handed_on _ c.from_residual-in_err-put_answer-in-Err.result (Unwritten e) p.0 p.1 p.2
    (not_answered_if_stopped (IsViewTold asked r) c.in_ok-circle_answer-in-Err.field-0.status c.in_ok-circle_answer-in-Err.field-0.text.items e _ (
      c.in_ok-circle.ensures.there,
      inl (c.in-Err.circle.thread, c.in-Err.circle.event, circle, c.in_ok-circle_answer-in-Err.ensures.0, c.in_ok-circle_answer-in-Err.ensures.1),
    )
    c.in_err-put_answer-in-Err.ensures.fails)

pub returns-in_ok-put_answer-in-Err-clause-ok : goal.returns-in_ok-put_answer-in-Err-clause-ok
returns-in_ok-put_answer-in-Err-clause-ok g c =
    let r = c.args.trace.now in
    let asked = c.args.self.now in
    let circle : IsCircleAt r c.in-Err.circle.thread c.in-Err.circle.event =
    subst (λ (x : Result Picture Circle). MatchResult x (λ p. HasNoCircle r × IsPicture r asked.around p) (λ d. IsCircleAt r d.thread d.event))
    c.in-Err.is c.in_ok-circle.ensures.ok in
    answered_if_written (IsViewTold asked r) c.in_ok-put_answer-in-Err.field-0 (g.O.Sink.written c.args.out.now) (g.O.Sink.written c.put_answer.new.out)
    (g.O.Sink.broken c.put_answer.new.out) c.in_ok-circle_answer-in-Err.field-0.text.items
    (subst (λ (s : ExitStatus). IsViewTold asked r s c.in_ok-circle_answer-in-Err.field-0.text.items)
    (sym c.in_ok-put_answer-in-Err.ensures.status) (
      c.in_ok-circle.ensures.there,
      inl (c.in-Err.circle.thread, c.in-Err.circle.event, circle, c.in_ok-circle_answer-in-Err.ensures.0, c.in_ok-circle_answer-in-Err.ensures.1),
    ))
    c.in_ok-put_answer-in-Err.ensures.ok c.in_ok-put_answer-in-Err.ensures.works

pub returns-in_ok-put_answer-in-Err-clause-status : goal.returns-in_ok-put_answer-in-Err-clause-status
returns-in_ok-put_answer-in-Err-clause-status g c =
    ap is_of_answer (c.in_ok-put_answer-in-Err.ensures.status ∙ c.in_ok-circle_answer-in-Err.ensures.0)

pub returns-in_ok-show_picture-in-Ok-clause-status : goal.returns-in_ok-show_picture-in-Ok-clause-status
returns-in_ok-show_picture-in-Ok-clause-status g c =
    let asked = c.args.self.now in
    let answered = c.in_ok-show_picture-in-Ok.ensures.ok in
    form_status_is_answer asked.form c.args.trace.now asked.around c.in-Ok.picture c.in_ok-show_picture-in-Ok.field-0 answered.text answered.is
