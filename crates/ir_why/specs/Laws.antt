-- What holds of what events need, and of chains of waits, at the consistent cuts of each run.
use Rattle.std.specs.Prelude.{◌≡◌, ◌<◌, ℕ, List, Some}
use Rattle.std.specs.List.{slice_get}
use Rattle.ir_fit.specs.Fit.{FittedTrace, HasRun}
use Rattle.ir_cut.specs.Positions.{cut_of, IsConsistentCut}
use Rattle.ir_picture.specs.Needs.{Needs}
use Rattle.ir_picture.specs.declared.placed_box.PlacedBox.{PlacedBox}
use Rattle.ir_events.specs.Events.{event_entry}
use Rattle.ir_opened.specs.Positions.{IsInside, IsLeaveOf}
use Rattle.ir_why.specs.Waits.{AreWaits}
use Rattle.ir_why.specs.declared.wait.Wait.{Wait}

-- a consistent cut that has the step of an event has the step that leaves what the event needs
abbrev pub NeedsLeftBefore : Type 0
NeedsLeftBefore = (f : FittedTrace) → HasRun f → (t i u j k : ℕ) → Needs f.recorded t i u j → IsLeaveOf f u j k → (cut : List ℕ) → IsConsistentCut f cut
    → event_entry f t i < cut_of cut t → k < cut_of cut u

-- it has the steps of each wait of the chain from that event: the one that logs what waits, and the one that leaves what is needed
abbrev pub WaitsBefore : Type 0
WaitsBefore = (f : FittedTrace) → HasRun f → (boxes : List PlacedBox) (n t i : ℕ) (ws : List Wait) → IsInside f t i → AreWaits f boxes n t i ws
    → (cut : List ℕ) → IsConsistentCut f cut → event_entry f t i < cut_of cut t → (k : ℕ) (w : Wait) → slice_get ws k ≡ Some w
    → (w.step < cut_of cut w.waiting.thread) × (w.left < cut_of cut w.needed.thread)
