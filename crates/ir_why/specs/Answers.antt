-- What `ir why` answers.
use Rattle.std.specs.Prelude.{◌≡◌, ◌<◌, ◌≤◌, ◌⊎◌, ℕ, List, length, Result}
use Rattle.ir_trace.specs.Recorded.{Recorded, recorded_thread}
use Rattle.ir_trace.specs.declared.trace_err.TraceErr.{TraceErr}
use Rattle.ir_files.specs.Writers.{Writer}
use Rattle.ir_files.specs.declared.exit_status.ExitStatus.{ExitStatus}
use Rattle.ir_files.specs.declared.exit_status.ExitStatus.TheVariants as status
use Rattle.ir_past.specs.Replies.{IsTraceReply, IsTraceReplyless}
use Rattle.ir_past.specs.declared.absent.Absent.{Absent}
use Rattle.ir_past.specs.declared.absent.Absent.TheVariants as absent
use Rattle.ir_past.specs.declared.ask_err.AskErr.{AskErr}
use Rattle.ir_past.specs.declared.place.Place.{Place}
use Rattle.ir_picture.specs.Answers.{circle_line}
use Rattle.ir_picture.specs.Needs.{HasNoCircle, IsCircleAt}
use Rattle.ir_picture.specs.Places.{AreBoxesPlaced}
use Rattle.ir_picture.specs.declared.placed_box.PlacedBox.{PlacedBox}
use Rattle.ir_picture.specs.declared.placed_box.Point.{Point}
use Rattle.ir_why.specs.Needed.{AreNeeds}
use Rattle.ir_why.specs.Before.{IsPast}
use Rattle.ir_why.specs.Chain.{AreLinks}
use Rattle.ir_why.specs.Lines.{why_text}
use Rattle.ir_why.specs.declared.link.Link.{Link}
use Rattle.ir_why.specs.declared.question.Question.{Question}

-- the event that is asked about
abbrev pub event_asked : Question → Place
event_asked asked = record { thread = asked.thread; event = asked.event }

-- the trace has it
pub record HasAsked (r : Recorded) (asked : Question) : Type 0 where
  pub thread : asked.thread < length r.threads
  pub event : asked.event < length (recorded_thread r asked.thread).events

-- the lines about an event of a trace without a circle: the event, what it needs of other threads, how much is before it, and the chain
-- of at most this many waits that led to it, by the places of a picture
pub record IsReason (r : Recorded) (p : Place) (most : ℕ) (text : List ℕ) : Type 0 where
  pub needs : List Place
  pub needed : AreNeeds r p.thread p.event needs
  pub counts : List ℕ
  pub past : IsPast r p.thread p.event counts
  pub boxes : List PlacedBox
  pub ends : List Point
  pub placed : AreBoxesPlaced r boxes ends
  pub links : List Link
  pub chain : AreLinks r boxes most p.thread p.event links
  pub lines : text ≡ why_text r p needs counts links

-- the answer about an event of a coherent trace: a circle of its events, or these lines
abbrev pub IsEventAnswer : Recorded → Place → ℕ → ExitStatus → List ℕ → Type 0
IsEventAnswer r p most answered text =
    ((t e : ℕ) × IsCircleAt r t e × (answered ≡ status.NotFit) × (text ≡ circle_line t e))
    ⊎ (HasNoCircle r × (answered ≡ status.Done) × IsReason r p most text)

-- the answer about a coherent trace
abbrev pub IsWhyOfTrace : Question → Recorded → ExitStatus → List ℕ → Type 0
IsWhyOfTrace asked r answered text = IsEventAnswer r (event_asked asked) asked.most answered text

-- the same where the trace has the event
abbrev pub IsWhyTold : Question → Recorded → ExitStatus → List ℕ → Type 0
IsWhyTold asked r answered text = HasAsked r asked × IsWhyOfTrace asked r answered text

-- the answer about bytes
abbrev pub IsWhyAnswer : Question → Result Recorded TraceErr → ExitStatus → List ℕ → Type 0
IsWhyAnswer asked = IsTraceReply (IsWhyTold asked)

-- the trace doesn't have the event
abbrev pub LacksEvent : Question → Recorded → Absent → Type 0
LacksEvent asked r absent.Thread = length r.threads ≤ asked.thread
LacksEvent asked r absent.Event = (asked.thread < length r.threads) × (length (recorded_thread r asked.thread).events ≤ asked.event)
LacksEvent asked r what = ⊥

-- why there is no answer about bytes, and what that leaves
abbrev pub IsWhyUnanswered : Question → Result Recorded TraceErr → AskErr → Writer → Type 0
IsWhyUnanswered asked = IsTraceReplyless (IsWhyTold asked) (LacksEvent asked)
