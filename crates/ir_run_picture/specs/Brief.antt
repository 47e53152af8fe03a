-- The boxes of a run: what is folded is left at once.
use Rattle.std.specs.Prelude.{◌≡◌, ℕ, suc, ◌+◌, ◌<◌, ◌≤◌, List, length, Some}
use Rattle.std.specs.List.{slice_get}
use Rattle.ir_fit.specs.Fit.{FittedTrace}
use Rattle.ir_trace.specs.Recorded.{recorded_thread}
use Rattle.ir_coherence.specs.Before.{IsBefore}
use Rattle.ir_events.specs.Events.{entries_of, event_entry}
use Rattle.ir_opened.specs.Positions.{IsLeaveOf}
use Rattle.ir_picture.specs.Boxes.{AreFolded, IsInBox, HasBox}
use Rattle.ir_picture.specs.declared.event_box.EventBox.{EventBox}

-- thread t leaves what its event i entered, if that is an entry, before it logs another event
abbrev pub IsBrief : FittedTrace → ℕ → ℕ → Type 0
IsBrief f t i = (k : ℕ) → IsLeaveOf f t i k → suc i < length (entries_of f t) → k < event_entry f t (suc i)

-- these two events of thread t belong into one box of a run: they are folded, and nothing is held over another event
pub record AreFoldedIn (f : FittedTrace) (t i j : ℕ) : Type 0 where
  pub folded : AreFolded (recorded_thread f.recorded t).events i j
  pub one : IsBrief f t i
  pub other : IsBrief f t j

-- a box of a run: it has events, which are folded
pub record IsRunBox (f : FittedTrace) (b : EventBox) : Type 0 where
  pub thread : b.thread < length f.recorded.threads
  pub some : 1 ≤ b.count
  pub within : b.event + b.count ≤ length (recorded_thread f.recorded b.thread).events
  pub folds : (i : ℕ) → b.event ≤ i → suc i < b.event + b.count → AreFoldedIn f b.thread i (suc i)

-- the boxes of a run: each event is in exactly one, two events that are folded are in the same one, and the boxes come by rising thread and event
pub record AreRunBoxes (f : FittedTrace) (boxes : List EventBox) : Type 0 where
  pub each : (k : ℕ) (b : EventBox) → slice_get boxes k ≡ Some b → IsRunBox f b
  pub all : (t i : ℕ) → i < length (recorded_thread f.recorded t).events → HasBox boxes t i
  pub one : (k m t i : ℕ) (a b : EventBox) → slice_get boxes k ≡ Some a → slice_get boxes m ≡ Some b → IsInBox a t i → IsInBox b t i → k ≡ m
  pub joined : (k t i : ℕ) (b : EventBox) → slice_get boxes k ≡ Some b → IsInBox b t i → AreFoldedIn f t i (suc i) → IsInBox b t (suc i)
  pub rising : (k m : ℕ) (a b : EventBox) → k < m → slice_get boxes k ≡ Some a → slice_get boxes m ≡ Some b
      → IsBefore a.thread a.event b.thread b.event
