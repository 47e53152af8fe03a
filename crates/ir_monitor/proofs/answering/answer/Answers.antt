use Rattle.std.proofs.Common.{◌≡◌, ℕ, List, sym, subst}
use Rattle.ir_files.specs.Writers.{writer_of}
use Rattle.ir_past.specs.Replies.{IsDoneWith}
use Rattle.ir_why.specs.FitAnswers.{IsFitReason, LacksFitAsked}
use Rattle.ir_monitor.specs.Answers.{IsAnswerTo, form_words}
use Rattle.ir_monitor.specs.Telling.{said_line, IsSaidOf}
use Rattle.ir_monitor.specs.declared.asked.Asked.{Asked}
use Rattle.ir_monitor.specs.declared.asked.Asked.TheVariants.{Object, Version, Word, Stale, Event, LastEvent, Events, ThreadEvents, Misspelt}
use Rattle.ir_monitor.proofs.Arms.{said_in_answer, said_as_implied, why_said_of_event, line_said_by_words}
use Rattle.ir_monitor.proofs.answering.answer.Goals as goal

pub returns-in-Object : goal.returns-in-Object
returns-in-Object g c =
    let h = said_in_answer c.args.fitted.now c.args.here c.args.asked (Object c.in-Object.object) c.say.result
    (writer_of (g.O.Sink.written c.args.out.now) (g.O.Sink.written c.say.new.out) (g.O.Sink.broken c.say.new.out))
    c.in-Object.is c.say.ensures.ok c.say.ensures.fails in
    record { ok = h.0; fails = h.1 }

pub returns-in-Version : goal.returns-in-Version
returns-in-Version g c =
    let h = said_in_answer c.args.fitted.now c.args.here c.args.asked (Version c.in-Version.object c.in-Version.version) c.say-in-Version.result
    (writer_of (g.O.Sink.written c.args.out.now) (g.O.Sink.written c.say-in-Version.new.out) (g.O.Sink.broken c.say-in-Version.new.out))
    c.in-Version.is c.say-in-Version.ensures.ok c.say-in-Version.ensures.fails in
    record { ok = h.0; fails = h.1 }

pub returns-in-Word : goal.returns-in-Word
returns-in-Word g c =
    let h = said_in_answer c.args.fitted.now c.args.here c.args.asked (Word c.in-Word.object c.in-Word.word) c.say-in-Word.result
    (writer_of (g.O.Sink.written c.args.out.now) (g.O.Sink.written c.say-in-Word.new.out) (g.O.Sink.broken c.say-in-Word.new.out))
    c.in-Word.is c.say-in-Word.ensures.ok c.say-in-Word.ensures.fails in
    record { ok = h.0; fails = h.1 }

pub returns-in-Stale : goal.returns-in-Stale
returns-in-Stale g c =
    let h = said_in_answer c.args.fitted.now c.args.here c.args.asked (Stale) c.say-in-Stale.result
    (writer_of (g.O.Sink.written c.args.out.now) (g.O.Sink.written c.say-in-Stale.new.out) (g.O.Sink.broken c.say-in-Stale.new.out))
    c.in-Stale.is c.say-in-Stale.ensures.ok c.say-in-Stale.ensures.fails in
    record { ok = h.0; fails = h.1 }

pub returns-in-Event : goal.returns-in-Event
returns-in-Event g c =
    let w = writer_of (g.O.Sink.written c.args.out.now) (g.O.Sink.written c.say-in-Event.new.out) (g.O.Sink.broken c.say-in-Event.new.out) in
    let h = said_as_implied (IsSaidOf (IsDoneWith (IsFitReason c.event_question.result c.args.fitted.now)) (LacksFitAsked c.event_question.result c.args.fitted.now))
    (IsAnswerTo c.args.fitted.now c.args.here c.args.asked) c.say-in-Event.result w
    (λ text said. subst (λ (x : Asked). IsAnswerTo c.args.fitted.now c.args.here x text) (sym c.in-Event.is)
    (why_said_of_event c.args.fitted.now c.in-Event.thread c.in-Event.event c.event_question.result text c.event_question.ensures said))
    c.say-in-Event.ensures.ok c.say-in-Event.ensures.fails in
    record { ok = h.0; fails = h.1 }

pub returns-in-LastEvent : goal.returns-in-LastEvent
returns-in-LastEvent g c =
    let h = said_in_answer c.args.fitted.now c.args.here c.args.asked (LastEvent) c.say_last.result
    (writer_of (g.O.Sink.written c.args.out.now) (g.O.Sink.written c.say_last.new.out) (g.O.Sink.broken c.say_last.new.out))
    c.in-LastEvent.is c.say_last.ensures.ok c.say_last.ensures.fails in
    record { ok = h.0; fails = h.1 }

pub returns-in-Events : goal.returns-in-Events
returns-in-Events g c =
    let h = said_in_answer c.args.fitted.now c.args.here c.args.asked (Events) c.say-in-Events.result
    (writer_of (g.O.Sink.written c.args.out.now) (g.O.Sink.written c.say-in-Events.new.out) (g.O.Sink.broken c.say-in-Events.new.out))
    c.in-Events.is c.say-in-Events.ensures.ok c.say-in-Events.ensures.fails in
    record { ok = h.0; fails = h.1 }

pub returns-in-ThreadEvents : goal.returns-in-ThreadEvents
returns-in-ThreadEvents g c =
    let h = said_in_answer c.args.fitted.now c.args.here c.args.asked (ThreadEvents c.in-ThreadEvents.thread) c.say-in-ThreadEvents.result
    (writer_of (g.O.Sink.written c.args.out.now) (g.O.Sink.written c.say-in-ThreadEvents.new.out) (g.O.Sink.broken c.say-in-ThreadEvents.new.out))
    c.in-ThreadEvents.is c.say-in-ThreadEvents.ensures.ok c.say-in-ThreadEvents.ensures.fails in
    record { ok = h.0; fails = h.1 }

pub returns-in-Misspelt : goal.returns-in-Misspelt
returns-in-Misspelt g c =
    let w = writer_of (g.O.Sink.written c.args.out.now) (g.O.Sink.written c.say_line.new.out) (g.O.Sink.broken c.say_line.new.out) in
    let h = said_as_implied (λ (text : List ℕ). text ≡ said_line c.words.result.now) (IsAnswerTo c.args.fitted.now c.args.here c.args.asked) c.say_line.result w
    (λ text said. subst (λ (x : Asked). IsAnswerTo c.args.fitted.now c.args.here x text) (sym c.in-Misspelt.is)
    (line_said_by_words c.words.result.now (form_words c.in-Misspelt.form) text c.words.ensures said))
    c.say_line.ensures.ok c.say_line.ensures.fails in
    record { ok = h.0; fails = h.1 }
