use Rattle.std.proofs.Common.{subst}
use Rattle.ir_files.specs.Writers.{writer_of}
use Rattle.ir_past.specs.Replies.{IsUnsaid}
use Rattle.ir_past.specs.declared.ask_err.AskErr.{AskErr}
use Rattle.ir_monitor.proofs.Told.{absent_line_is_told}
use Rattle.ir_monitor.proofs.saying.say.Goals as goal

pub returns-in-Err-Absent-clause-ok : goal.returns-in-Err-Absent-clause-ok
returns-in-Err-Absent-clause-ok g c =
    let h = subst (λ (e : AskErr). IsUnsaid (g.Q.RunQuestion.is_answer c.args.question.now c.args.fitted.now) (g.Q.RunQuestion.is_absent c.args.question.now c.args.fitted.now) e
    (writer_of (g.O.Sink.written c.args.out.now) (g.O.Sink.written c.print.new.out) (g.O.Sink.broken c.print.new.out)))
    c.in-Err-Absent.field-0-is c.in-Err-Absent.ensures.fails in
    (absent_line_is_told (g.Q.RunQuestion.is_answer c.args.question.now c.args.fitted.now) (g.Q.RunQuestion.is_absent c.args.question.now c.args.fitted.now)
    c.in-Err-Absent.what c.words.result.now c.say_line.result (g.O.Sink.written c.args.out.now) (g.O.Sink.written c.print.new.out) (g.O.Sink.written c.say_line.new.out)
    (g.O.Sink.broken c.print.new.out) (g.O.Sink.broken c.say_line.new.out) c.words.ensures h.0 h.1 c.say_line.ensures.ok c.say_line.ensures.fails).0

pub returns-in-Err-Absent-clause-fails : goal.returns-in-Err-Absent-clause-fails
returns-in-Err-Absent-clause-fails g c =
    let h = subst (λ (e : AskErr). IsUnsaid (g.Q.RunQuestion.is_answer c.args.question.now c.args.fitted.now) (g.Q.RunQuestion.is_absent c.args.question.now c.args.fitted.now) e
    (writer_of (g.O.Sink.written c.args.out.now) (g.O.Sink.written c.print.new.out) (g.O.Sink.broken c.print.new.out)))
    c.in-Err-Absent.field-0-is c.in-Err-Absent.ensures.fails in
    (absent_line_is_told (g.Q.RunQuestion.is_answer c.args.question.now c.args.fitted.now) (g.Q.RunQuestion.is_absent c.args.question.now c.args.fitted.now)
    c.in-Err-Absent.what c.words.result.now c.say_line.result (g.O.Sink.written c.args.out.now) (g.O.Sink.written c.print.new.out) (g.O.Sink.written c.say_line.new.out)
    (g.O.Sink.broken c.print.new.out) (g.O.Sink.broken c.say_line.new.out) c.words.ensures h.0 h.1 c.say_line.ensures.ok c.say_line.ensures.fails).1
