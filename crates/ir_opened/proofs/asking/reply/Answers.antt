use Rattle.std.proofs.Common.{Err, subst}
use Rattle.std.proofs.lemmas.Result.{err_from_is_err_and}
use Rattle.ir_files.proofs.CallerLemmas.{if_err_handed_on}
use Rattle.ir_files.specs.Writers.{writer_of}
use Rattle.ir_past.specs.declared.ask_err.AskErr.TheVariants.{Unwritten}
use Rattle.ir_past.proofs.CallerLemmas.{reply_if_answered}
use Rattle.ir_opened.specs.Answers.{IsUnfitRefusal}
use Rattle.ir_opened.specs.Opened.{IsFit, IsFitOpened}
use Rattle.ir_opened.specs.declared.opened.Opened.TheVariants.{Fits, Refused}
use Rattle.ir_opened.proofs.Shown.{fit_refusal_is_answered}
use Rattle.ir_opened.proofs.asking.reply.Goals as goal

pub returns-in-Fits : goal.returns-in-Fits
returns-in-Fits g c =
    let image = c.args.image.now in
    let trace = c.args.trace.now in
    let question = c.args.question.now in
    let opened : IsFitOpened image trace (Fits c.in-Fits.fitted) = subst (IsFitOpened image trace) c.in-Fits.is c.in_ok-fitted.ensures in
    let h = reply_if_answered (IsFit image trace) (g.Q.RunQuestion.is_answer question) (g.Q.RunQuestion.is_absent question) (IsUnfitRefusal image trace)
    c.in-Fits.fitted c.print.result (writer_of (g.O.Sink.written c.args.out.now) (g.O.Sink.written c.print.new.out) (g.O.Sink.broken c.print.new.out)) opened
    c.print.ensures.ok c.print.ensures.fails in
    record { ok = h.0; fails = h.1; status = c.print.ensures.status }

pub returns-in_err-refuse-in-Refused-clause-fails : goal.returns-in_err-refuse-in-Refused-clause-fails
returns-in_err-refuse-in-Refused-clause-fails g c =
    let p = err_from_is_err_and c.from_residual-in_err-refuse-in-Refused.result c.from_residual-in_err-refuse-in-Refused.ensures.1 in
    let e = c.in_err-refuse-in-Refused.field-0.0 in
    let image = c.args.image.now in
    let trace = c.args.trace.now in
    let because : IsFitOpened image trace (Refused c.in-Refused.why) = subst (IsFitOpened image trace) c.in-Refused.is c.in_ok-fitted.ensures in
    if_err_handed_on _ c.from_residual-in_err-refuse-in-Refused.result (Unwritten e) p.0 p.1 p.2
    (fit_refusal_is_answered (g.Q.RunQuestion.is_answer c.args.question.now) image trace c.in-Refused.why (Err e) (g.O.Sink.written c.args.out.now)
    (g.O.Sink.written c.refuse.new.out) (g.O.Sink.broken c.refuse.new.out) because _ _ _ c.in_err-refuse-in-Refused.ensures.fails).1
