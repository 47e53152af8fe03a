-- What `ir why` answers where it is asked with an image.
use Rattle.std.specs.Prelude.{◌≡◌, ◌+◌, ◌⊎◌, ⊤, ℕ, List, length, Option, Some, None}
use Rattle.std.specs.Option.{option_map}
use Rattle.std.specs.List.{slice_get}
use Rattle.ir_log.specs.declared.event.Event.{Event}
use Rattle.ir_fit.specs.Fit.{FittedTrace}
use Rattle.ir_cut.specs.Positions.{first_cut, IsConsistentCut}
use Rattle.ir_cut.specs.Searching.{IsLeastCut}
use Rattle.ir_files.specs.Writers.{Writer}
use Rattle.ir_past.specs.Past.{event_at}
use Rattle.ir_past.specs.declared.absent.Absent.{Absent}
use Rattle.ir_past.specs.declared.absent.Absent.TheVariants as absent
use Rattle.ir_past.specs.declared.ask_err.AskErr.{AskErr}
use Rattle.ir_past.specs.declared.place.Place.{Place}
use Rattle.ir_picture.specs.Places.{AreBoxesPlaced}
use Rattle.ir_picture.specs.declared.placed_box.PlacedBox.{PlacedBox}
use Rattle.ir_picture.specs.declared.placed_box.Point.{Point}
use Rattle.ir_events.specs.Events.{event_entry}
use Rattle.ir_opened.specs.Answers.{IsFitAnswerlessOf}
use Rattle.ir_opened.specs.Positions.{IsInside, IsLeft}
use Rattle.ir_why.specs.Answers.{event_asked, HasAsked, LacksEvent}
use Rattle.ir_why.specs.FitLines.{here_line, fit_text}
use Rattle.ir_why.specs.Needed.{AreNeeds}
use Rattle.ir_why.specs.Waits.{AreWaits, IsPastIn}
use Rattle.ir_opened.specs.Paired.{ArePaired}
use Rattle.ir_why.specs.declared.fit_question.FitQuestion.{FitQuestion}
use Rattle.ir_why.specs.declared.need.Need.{Need}
use Rattle.ir_why.specs.declared.wait.Wait.{Wait}

-- each of these events is one of a thread of the guest
abbrev pub AreEventsInside : FittedTrace → List Place → Type 0
AreEventsInside f places = (k : ℕ) (p : Place) → slice_get places k ≡ Some p → IsInside f p.thread p.event

-- an event that is needed: what it logged, and where its thread leaves what it entered
pub record IsNeed (f : FittedTrace) (p : Place) (x : Need) : Type 0 where
  pub place : x.place ≡ p
  pub logged : event_at f.recorded p.thread p.event ≡ Some x.event
  pub left : IsLeft f p.thread p.event x.left

-- what an event needs of other threads, in its order
pub record AreNeedsOf (f : FittedTrace) (p : Place) (xs : List Need) : Type 0 where
  pub needs : List Place
  pub are : AreNeeds f.recorded p.thread p.event needs
  pub each : ArePaired (IsNeed f) needs xs

-- the line of an event, with what it logged and its step
pub record IsHereLine (f : FittedTrace) (p : Place) (line : List ℕ) : Type 0 where
  pub event : Event
  pub logged : event_at f.recorded p.thread p.event ≡ Some event
  pub text : line ≡ here_line p event (event_entry f p.thread p.event)

-- the least consistent cut that has the step by which an event is logged
abbrev pub IsLeastFor : FittedTrace → Place → List ℕ → Type 0
IsLeastFor f p cut = IsLeastCut f (first_cut f) p.thread (event_entry f p.thread p.event + 1) cut

-- the lines about an event of a run: the event, what it needs of other threads, how much of the least cut that has it is before it, that cut,
-- and the chain of at most this many waits that led to it; what is needed is held against a cut, if there is one
pub record IsReasonIn (f : FittedTrace) (p : Place) (most : ℕ) (at : Option (List ℕ)) (text : List ℕ) : Type 0 where
  pub here : List ℕ
  pub is_here : IsHereLine f p here
  pub needs : List Need
  pub needed : AreNeedsOf f p needs
  pub least : List ℕ
  pub is_least : IsLeastFor f p least
  pub counts : List ℕ
  pub past : IsPastIn f p least counts
  pub boxes : List PlacedBox
  pub ends : List Point
  pub placed : AreBoxesPlaced f.recorded boxes ends
  pub waits : List Wait
  pub chain : AreWaits f boxes most p.thread p.event waits
  pub lines : text ≡ fit_text at here needs counts least waits

-- the positions that are asked about, if they are
abbrev pub positions_asked : FitQuestion → Option (List ℕ)
positions_asked asked = option_map (λ v. v.items) asked.at

-- these are positions of all threads, and a consistent cut
abbrev pub IsCutOfThreads : FittedTrace → List ℕ → Type 0
IsCutOfThreads f ps = (length ps ≡ length f.guest.entries) × IsConsistentCut f ps

-- so are those that are asked about, if they are
abbrev pub AreCuts : FittedTrace → Option (List ℕ) → Type 0
AreCuts f None = ⊤
AreCuts f (Some ps) = IsCutOfThreads f ps

-- the answer about a guest and a trace of one of its runs
pub record IsFitReason (asked : FitQuestion) (f : FittedTrace) (text : List ℕ) : Type 0 where
  pub there : HasAsked f.recorded asked.what
  pub at : AreCuts f (positions_asked asked)
  pub reason : IsReasonIn f (event_asked asked.what) asked.what.most (positions_asked asked) text

-- the run doesn't have what is asked about: no such event, or the positions are no consistent cut
abbrev pub LacksFitAsked : FitQuestion → FittedTrace → Absent → Type 0
LacksFitAsked asked f what =
    LacksEvent asked.what f.recorded what ⊎ ((what ≡ absent.Cut) × HasAsked f.recorded asked.what × (AreCuts f (positions_asked asked) → ⊥))

-- why there is no answer about bytes, and what that leaves
abbrev pub IsWhyFitUnanswered : FitQuestion → List ℕ → List ℕ → AskErr → Writer → Type 0
IsWhyFitUnanswered asked = IsFitAnswerlessOf (IsFitReason asked) (LacksFitAsked asked)
