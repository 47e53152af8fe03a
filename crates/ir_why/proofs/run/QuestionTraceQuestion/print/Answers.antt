use Rattle.std.proofs.Common.{◌∙◌, ap, sym, subst}
use Rattle.std.proofs.lemmas.Result.{err_from_is_err_and}
use Rattle.ir_files.proofs.CallerLemmas.{if_err_handed_on}
use Rattle.ir_files.specs.declared.exit_status.ExitStatus.{ExitStatus}
use Rattle.ir_past.proofs.CallerLemmas.{answered_if_written, not_answered_if_stopped}
use Rattle.ir_past.specs.Replies.{is_of_answer}
use Rattle.ir_past.specs.declared.ask_err.AskErr.TheVariants.{Unwritten}
use Rattle.ir_why.specs.Answers.{IsWhyTold, event_asked}
use Rattle.ir_why.proofs.Said.{event_status_is_answer}
use Rattle.ir_why.proofs.run.QuestionTraceQuestion.print.Goals as goal

pub returns-in_err-put_answer-clause-fails : goal.returns-in_err-put_answer-clause-fails
returns-in_err-put_answer-clause-fails g c =
    let p = err_from_is_err_and c.from_residual-in_err-put_answer.result c.from_residual-in_err-put_answer.ensures.1 in
    let e = c.in_err-put_answer.field-0.0 in
    if_err_handed_on _ c.from_residual-in_err-put_answer.result (Unwritten e) p.0 p.1 p.2
    (not_answered_if_stopped (IsWhyTold c.args.self.now c.args.trace.now) c.in_ok-answer.answer.status c.in_ok-answer.answer.text.items e _
    (c.in_ok-answer.ensures.there, c.in_ok-answer.ensures.ok) c.in_err-put_answer.ensures.fails)

pub returns-clause-ok : goal.returns-clause-ok
returns-clause-ok g c =
    answered_if_written (IsWhyTold c.args.self.now c.args.trace.now) c.in_ok-put_answer.field-0 (g.O.Sink.written c.args.out.now)
    (g.O.Sink.written c.put_answer.new.out) (g.O.Sink.broken c.put_answer.new.out) c.in_ok-answer.answer.text.items
    (subst (λ (s : ExitStatus). IsWhyTold c.args.self.now c.args.trace.now s c.in_ok-answer.answer.text.items) (sym c.in_ok-put_answer.ensures.status)
    (c.in_ok-answer.ensures.there, c.in_ok-answer.ensures.ok))
    c.in_ok-put_answer.ensures.ok c.in_ok-put_answer.ensures.works

pub returns-clause-status : goal.returns-clause-status
returns-clause-status g c =
    let asked = c.args.self.now in
    ap is_of_answer c.in_ok-put_answer.ensures.status
    ∙ event_status_is_answer c.args.trace.now (event_asked asked) asked.most c.in_ok-answer.answer.status c.in_ok-answer.answer.text.items c.in_ok-answer.ensures.ok
