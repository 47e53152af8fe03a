-- The chain of waits of a run, and how much of it is below a cut: a thread that holds an object may wait for another before it leaves.
use Rattle.std.specs.Prelude.{◌≡◌, ◌<◌, ◌≤◌, ◌-◌, ◌+◌, ◌⊎◌, ◌==◌, if◌then◌else◌, ℕ, List, [], ◌∷◌, length, Some}
use Rattle.std.specs.List.{slice_get}
use Rattle.ir_fit.specs.Fit.{FittedTrace}
use Rattle.ir_cut.specs.Positions.{cut_of}
use Rattle.ir_past.specs.declared.place.Place.{Place}
use Rattle.ir_picture.specs.declared.placed_box.PlacedBox.{PlacedBox}
use Rattle.ir_events.specs.Events.{entries_of, event_entry}
use Rattle.ir_opened.specs.Positions.{IsInside, IsLeaveOf}
use Rattle.ir_why.specs.Chain.{IsLink, WaitsForNone}
use Rattle.ir_why.specs.declared.link.Link.{Link}
use Rattle.ir_why.specs.declared.wait.Wait.{Wait}

-- thread u logs its first n events before its step l, and no other
pub record AreBefore (f : FittedTrace) (u l n : ℕ) : Type 0 where
  pub within : n ≤ length (entries_of f u)
  pub before : (k : ℕ) → k < n → event_entry f u k < l
  pub rest : (k : ℕ) → n ≤ k → k < length (entries_of f u) → l ≤ event_entry f u k

-- event e is the last that thread u logs before its step l
pub record IsLastBefore (f : FittedTrace) (u l e : ℕ) : Type 0 where
  pub inside : IsInside f u e
  pub before : event_entry f u e < l
  pub last : (k : ℕ) → e < k → k < length (entries_of f u) → l ≤ event_entry f u k

-- a wait of a chain: a link, the step that logs the event that waits, and the step that leaves what it needs
pub record IsWait (f : FittedTrace) (l : Link) (w : Wait) : Type 0 where
  pub waiting : w.waiting ≡ l.waiting
  pub step : w.step ≡ event_entry f l.waiting.thread l.waiting.event
  pub needed : w.needed ≡ l.needed
  pub left : IsLeaveOf f l.needed.thread l.needed.event w.left

-- the wait of a link from event i of thread t
pub record IsWaitFrom (f : FittedTrace) (boxes : List PlacedBox) (t i : ℕ) (w : Wait) : Type 0 where
  pub link : Link
  pub is : IsLink f.recorded boxes t i link
  pub wait : IsWait f link w

-- the waits from event i of thread t, until a thread waited for none or there are n: each goes on from the last event that the thread which
-- the wait before it needed logs before the step that leaves what is needed
abbrev pub AreWaits : FittedTrace → List PlacedBox → ℕ → ℕ → ℕ → List Wait → Type 0
AreWaits f boxes n t i [] = (n ≡ 0) ⊎ WaitsForNone f.recorded t i
AreWaits f boxes n t i (w ∷ ws) = (0 < n) × IsWaitFrom f boxes t i w
    × ((e : ℕ) × IsLastBefore f w.needed.thread w.left e × AreWaits f boxes (n - 1) w.needed.thread e ws)

-- 1 for the thread of an event, and 0 for the others
abbrev pub itself : Place → ℕ → ℕ
itself p u = if u == p.thread then 1 else 0

-- for each thread how many of its events are steps of a cut that has event p, that event left out
pub record IsPastIn (f : FittedTrace) (p : Place) (cut counts : List ℕ) : Type 0 where
  pub size : length counts ≡ length f.guest.entries
  pub each : (u n : ℕ) → slice_get counts u ≡ Some n → AreBefore f u (cut_of cut u) (n + itself p u)
