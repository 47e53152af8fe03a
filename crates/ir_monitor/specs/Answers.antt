-- What questions of a recorded run are answered.
use Rattle.std.specs.Prelude.{◌≡◌, ◌⊎◌, ℕ, List, codes, Option, Some, None}
use Rattle.ir_fit.specs.Fit.{FittedTrace}
use Rattle.ir_past.specs.Replies.{IsDoneWith}
use Rattle.ir_who.specs.FitLines.{IsFitWhoAnswer, LacksAskedIn}
use Rattle.ir_who.specs.declared.question.Question as who
use Rattle.ir_who_word.specs.Lines.{IsWordAnswer, LacksWord}
use Rattle.ir_who_word.specs.declared.question.Question as word
use Rattle.ir_stale_run.specs.Lines.{IsRestsAnswer}
use Rattle.ir_why.specs.FitAnswers.{IsFitReason, LacksFitAsked}
use Rattle.ir_why.specs.Waits.{AreBefore, IsLastBefore}
use Rattle.ir_why.specs.declared.fit_question.FitQuestion.{FitQuestion}
use Rattle.ir_monitor.specs.declared.asked.Asked.{Asked}
use Rattle.ir_monitor.specs.declared.asked.Asked.TheVariants.{Object, Version, Word, Stale, Event, LastEvent, Events, ThreadEvents, Misspelt}
use Rattle.ir_monitor.specs.declared.asked.Form.{Form}
use Rattle.ir_monitor.specs.declared.asked.Form.TheVariants as form
use Rattle.ir_monitor.specs.declared.here.Here.{Here}
use Rattle.ir_monitor.specs.Telling.{said_line, IsSaidOf}
use Rattle.ir_monitor.specs.Events.{AreEventsSaid, LacksThread}

-- ---- who

abbrev pub versions_question : ℕ → Option ℕ → who.Question
versions_question o v = record { object = o; version = v }

abbrev pub word_question : ℕ → ℕ → word.Question
word_question o i = record { object = o; word = i }

-- what `ir who` prints of an object with the image
abbrev pub IsWhoSaid : FittedTrace → ℕ → Option ℕ → List ℕ → Type 0
IsWhoSaid f o v = IsSaidOf (IsDoneWith (IsFitWhoAnswer (versions_question o v) f)) (LacksAskedIn (versions_question o v) f)

-- what `ir who --word` prints of a word of an object
abbrev pub IsWordSaid : FittedTrace → ℕ → ℕ → List ℕ → Type 0
IsWordSaid f o i = IsSaidOf (IsDoneWith (IsWordAnswer (word_question o i) f)) (LacksWord (word_question o i) f)

-- ---- stale

-- what `ir stale` prints with the image
abbrev pub IsStaleSaid : FittedTrace → List ℕ → Type 0
IsStaleSaid f = IsSaidOf (IsDoneWith (IsRestsAnswer f)) (λ what. ⊥)

-- ---- why

-- how many links of the chain of waits `ir why` tells unless it is told otherwise
abbrev pub told_links : ℕ
told_links = 20

abbrev pub event_question : ℕ → ℕ → FitQuestion
event_question t e = record { what = record { thread = t; event = e; most = told_links }; at = None }

-- what `ir why` prints of an event with the image
abbrev pub IsWhySaid : FittedTrace → ℕ → ℕ → List ℕ → Type 0
IsWhySaid f t e = IsSaidOf (IsDoneWith (IsFitReason (event_question t e) f)) (LacksFitAsked (event_question t e) f)

-- the same of the last event that a thread logs before its step there, or the line that says that it logs none before
abbrev pub IsLastSaid : FittedTrace → Here → List ℕ → Type 0
IsLastSaid f here text = ((e : ℕ) × IsLastBefore f here.thread here.position e × IsWhySaid f here.thread e text)
    ⊎ (AreBefore f here.thread here.position 0 × (text ≡ said_line (codes "the thread has made no event yet")))

-- ---- events

abbrev pub IsEventsSaid : FittedTrace → Option ℕ → List ℕ → Type 0
IsEventsSaid f asked = IsSaidOf (IsDoneWith (AreEventsSaid asked f)) (LacksThread asked f)

-- ---- a question

-- how a question of a form is written
abbrev pub form_words : Form → List ℕ
form_words form.Who = codes "usage: monitor who OBJECT [VERSION], or monitor who OBJECT word WORD"
form_words form.Stale = codes "usage: monitor stale"
form_words form.Why = codes "usage: monitor why [THREAD EVENT]"
form_words form.Events = codes "usage: monitor events [THREAD]"

-- the answer to what is asked of a run, by a thread that is there
abbrev pub IsAnswerTo : FittedTrace → Here → Asked → List ℕ → Type 0
IsAnswerTo f here (Object o) text = IsWhoSaid f o None text
IsAnswerTo f here (Version o v) text = IsWhoSaid f o (Some v) text
IsAnswerTo f here (Word o i) text = IsWordSaid f o i text
IsAnswerTo f here Stale text = IsStaleSaid f text
IsAnswerTo f here (Event t e) text = IsWhySaid f t e text
IsAnswerTo f here LastEvent text = IsLastSaid f here text
IsAnswerTo f here Events text = IsEventsSaid f None text
IsAnswerTo f here (ThreadEvents t) text = IsEventsSaid f (Some t) text
IsAnswerTo f here (Misspelt how) text = text ≡ said_line (form_words how)
