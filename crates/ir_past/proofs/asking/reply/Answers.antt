use Rattle.std.proofs.Common.{Err, subst}
use Rattle.std.proofs.lemmas.Result.{err_from_is_err_and}
use Rattle.ir_trace.specs.Recorded.{recorded_at}
use Rattle.ir_files.proofs.CallerLemmas.{if_err_handed_on}
use Rattle.ir_files.specs.Writers.{writer_of}
use Rattle.ir_past.specs.Answers.{IsOpened, IsRefusal}
use Rattle.ir_past.specs.Replies.{IsTraceRead}
use Rattle.ir_past.specs.declared.ask_err.AskErr.TheVariants.{Unwritten}
use Rattle.ir_past.specs.declared.opened.Opened.TheVariants.{Coherent, Refused}
use Rattle.ir_past.proofs.Shown.{refusal_is_answered, reply_if_answered}
use Rattle.ir_past.proofs.asking.reply.Goals as goal

pub returns-in-Coherent : goal.returns-in-Coherent
returns-in-Coherent g c =
    let read = recorded_at c.args.bytes.now in
    let question = c.args.question.now in
    let opened : IsOpened read (Coherent c.in-Coherent.trace) = subst (IsOpened read) c.in-Coherent.is c.in_ok-trace.ensures in
    let h = reply_if_answered (IsTraceRead read) (g.Q.TraceQuestion.is_answer question) (g.Q.TraceQuestion.is_absent question) (IsRefusal read) c.in-Coherent.trace
    c.print.result (writer_of (g.O.Sink.written c.args.out.now) (g.O.Sink.written c.print.new.out) (g.O.Sink.broken c.print.new.out)) opened
    c.print.ensures.ok c.print.ensures.fails in
    record { ok = h.0; fails = h.1; status = c.print.ensures.status }

pub returns-in_err-refuse-in-Refused-clause-fails : goal.returns-in_err-refuse-in-Refused-clause-fails
returns-in_err-refuse-in-Refused-clause-fails g c =
    let p = err_from_is_err_and c.from_residual-in_err-refuse-in-Refused.result c.from_residual-in_err-refuse-in-Refused.ensures.1 in
    let e = c.in_err-refuse-in-Refused.field-0.0 in
    let read = recorded_at c.args.bytes.now in
    let because : IsOpened read (Refused c.in-Refused.why) = subst (IsOpened read) c.in-Refused.is c.in_ok-trace.ensures in
    if_err_handed_on _ c.from_residual-in_err-refuse-in-Refused.result (Unwritten e) p.0 p.1 p.2
    (refusal_is_answered (g.Q.TraceQuestion.is_answer c.args.question.now) read c.in-Refused.why (Err e) (g.O.Sink.written c.args.out.now)
    (g.O.Sink.written c.refuse.new.out) (g.O.Sink.broken c.refuse.new.out) because _ _ _ c.in_err-refuse-in-Refused.ensures.fails).1
