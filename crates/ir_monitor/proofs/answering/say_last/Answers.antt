use Rattle.std.proofs.Common.{◌≡◌, ℕ, List, codes, inl, inr}
use Rattle.ir_files.specs.Writers.{writer_of}
use Rattle.ir_past.specs.Replies.{IsDoneWith}
use Rattle.ir_why.specs.FitAnswers.{IsFitReason, LacksFitAsked}
use Rattle.ir_monitor.specs.Answers.{IsLastSaid}
use Rattle.ir_monitor.specs.Telling.{said_line, IsSaidOf}
use Rattle.ir_monitor.proofs.Arms.{said_as_implied, why_said_of_event}
use Rattle.ir_monitor.proofs.answering.say_last.Goals as goal

pub returns-in-Some : goal.returns-in-Some
returns-in-Some g c =
    let w = writer_of (g.O.Sink.written c.args.out.now) (g.O.Sink.written c.say.new.out) (g.O.Sink.broken c.say.new.out) in
    let h = said_as_implied (IsSaidOf (IsDoneWith (IsFitReason c.event_question.result c.args.fitted.now)) (LacksFitAsked c.event_question.result c.args.fitted.now))
    (IsLastSaid c.args.fitted.now c.args.here) c.say.result w
    (λ text said. inl (
      c.in-Some.event,
      c.in-Some.ensures,
      why_said_of_event c.args.fitted.now c.args.here.thread c.in-Some.event c.event_question.result text c.event_question.ensures said,
    ))
    c.say.ensures.ok c.say.ensures.fails in
    record { ok = h.0; fails = h.1 }

pub returns-in-None : goal.returns-in-None
returns-in-None g c =
    let w = writer_of (g.O.Sink.written c.args.out.now) (g.O.Sink.written c.say_line.new.out) (g.O.Sink.broken c.say_line.new.out) in
    let h = said_as_implied (λ (text : List ℕ). text ≡ said_line (codes "the thread has made no event yet")) (IsLastSaid c.args.fitted.now c.args.here)
    c.say_line.result w (λ text said. inr (c.in-None.ensures, said)) c.say_line.ensures.ok c.say_line.ensures.fails in
    record { ok = h.0; fails = h.1 }
