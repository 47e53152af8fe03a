-- What holds of the places of boxes in the runs that have a trace.
use Rattle.std.specs.Prelude.{◌≡◌, ◌≢◌, ℕ, ◌==◌, ◌<◌, ◌≤◌, ◌⊎◌, List, length, filter, take, Some}
use Rattle.std.specs.List.{slice_get}
use Rattle.ir_runs.specs.Run.{Step}
use Rattle.ir_fit.specs.Fit.{FittedTrace, HasRun, IsRunOf}
use Rattle.ir_cut.specs.Positions.{EachRun, cut_of, last_of, threads_of, IsConsistentCut}
use Rattle.ir_events.specs.Events.{event_entry}
use Rattle.ir_opened.specs.Positions.{IsInside, IsLeaveOf}
use Rattle.ir_picture.specs.Needs.{Needs}
use Rattle.ir_picture.specs.Shown.{StartsAt}
use Rattle.ir_picture.specs.declared.placed_box.Point.{Point}
use Rattle.ir_picture.specs.declared.placed_box.PlacedBox.{PlacedBox}
use Rattle.ir_holds.specs.Spans.{IsOverSpan, AreRows}
use Rattle.ir_run_picture.specs.Held.{AreHeld}
use Rattle.ir_holds.specs.declared.span.Span.{Span}

-- event i of thread t needs step k of thread u: the step leaves what an event that is needed entered
pub record NeedsLeave (f : FittedTrace) (t i u k : ℕ) : Type 0 where
  pub needed : ℕ
  pub needs : Needs f.recorded t i u needed
  pub left : IsLeaveOf f u needed k

-- event i of thread t needs what is behind a leave of another thread: event k of that thread, which the thread logs before a step that event i needs
pub record NeedsBehind (f : FittedTrace) (t i u k : ℕ) : Type 0 where
  pub leave : ℕ
  pub needs : NeedsLeave f t i u leave
  pub other : u ≢ t
  pub inside : IsInside f u k
  pub before : event_entry f u k < leave

-- number n of a run is step k of thread t
pub record IsStepAt (run : List Step) (n t k : ℕ) : Type 0 where
  pub result : ℕ
  pub there : slice_get run n ≡ Some (t, result)
  pub before : length (filter (λ (e : Step). e.0 == t) (take n run)) ≡ k

-- a box of thread t starts at step k, or ends at it, if its first step is another, and this is the x
pub record IsMoment (boxes : List PlacedBox) (spans : List Span) (t k x : ℕ) : Type 0 where
  pub number : ℕ
  pub box : PlacedBox
  pub own : Span
  pub there : slice_get boxes number ≡ Some box
  pub goes : slice_get spans number ≡ Some own
  pub thread : own.thread ≡ t
  pub is : ((k ≡ own.first) × (x ≡ box.start.x)) ⊎ ((own.first < own.last) × (k ≡ own.last) × (x ≡ box.end.x))

-- a cut goes between what is left of x and the rest
pub record IsCutAt (f : FittedTrace) (boxes : List PlacedBox) (spans : List Span) (x : ℕ) (cut : List ℕ) : Type 0 where
  pub size : length cut ≡ threads_of f
  pub within : (t : ℕ) → cut_of cut t ≤ last_of f t
  pub left : (t k z : ℕ) → IsMoment boxes spans t k z → z < x → k < cut_of cut t
  pub rest : (t k z : ℕ) → IsMoment boxes spans t k z → x ≤ z → cut_of cut t ≤ k

-- the law: in each run with the trace what an event needs behind a leave comes before the event
abbrev pub BehindComesFirst : Type 0
BehindComesFirst = (f : FittedTrace) → HasRun f → (t i u k : ℕ) → NeedsBehind f t i u k
    → EachRun f (λ run. (m n : ℕ) → IsStepAt run m u (event_entry f u k) → IsStepAt run n t (event_entry f t i) → m < n)

-- the law: a consistent cut that has the step of an event has what the event needs behind a leave
abbrev pub BehindIsInCut : Type 0
BehindIsInCut = (f : FittedTrace) → HasRun f → (t i u k : ℕ) → NeedsBehind f t i u k → (cut : List ℕ) → IsConsistentCut f cut
    → event_entry f t i < cut_of cut t → event_entry f u k < cut_of cut u

-- the law: what an event needs behind a leave is drawn further left than the event
abbrev pub BehindIsLeft : Type 0
BehindIsLeft = (f : FittedTrace) → HasRun f → (boxes : List PlacedBox) (spans : List Span) (ends : List Point) → AreHeld f boxes spans ends
    → (t i u k x z : ℕ) → NeedsBehind f t i u k → StartsAt boxes u k z → StartsAt boxes t i x → z < x

-- the law: what is left of an x is a consistent cut
abbrev pub LeftIsConsistent : Type 0
LeftIsConsistent = (f : FittedTrace) → HasRun f → (boxes : List PlacedBox) (spans : List Span) (ends : List Point) → AreHeld f boxes spans ends
    → (x : ℕ) (cut : List ℕ) → IsCutAt f boxes spans x cut → IsConsistentCut f cut

-- the law: there is such a cut for each x
abbrev pub LeftIsCut : Type 0
LeftIsCut = (f : FittedTrace) → HasRun f → (boxes : List PlacedBox) (spans : List Span) (ends : List Point) → AreHeld f boxes spans ends
    → (x : ℕ) → (cut : List ℕ) × IsCutAt f boxes spans x cut

-- a run takes the steps at which boxes start and end from left to right
abbrev pub GoesRight : List PlacedBox → List Span → List Step → Type 0
GoesRight boxes spans run = (t k x u j y m n : ℕ) → IsMoment boxes spans t k x → IsMoment boxes spans u j y → x < y → IsStepAt run m t k → IsStepAt run n u j
    → m < n

-- the law: left to right is the order of some run with the trace
abbrev pub RightIsAnOrder : Type 0
RightIsAnOrder = (f : FittedTrace) → HasRun f → (boxes : List PlacedBox) (spans : List Span) (ends : List Point) → AreHeld f boxes spans ends
    → (run : List Step) × IsRunOf f.guest f.recorded run × GoesRight boxes spans run

-- the law: two boxes of a thread that have the same row don't overlap
abbrev pub RowsDontOverlap : Type 0
RowsDontOverlap = (spans : List Span) (rows : List ℕ) → AreRows spans rows → (m n y : ℕ) (a b : Span) → m < n → slice_get spans m ≡ Some a → slice_get spans n ≡ Some b
    → slice_get rows m ≡ Some y → slice_get rows n ≡ Some y → IsOverSpan a b → ⊥
