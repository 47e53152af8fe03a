-- How far the boxes of a run are made.
use Rattle.std.specs.Prelude.{◌≡◌, ℕ, suc, ◌<◌, Bool, true, false, List, length, Some}
use Rattle.std.specs.List.{slice_get}
use Rattle.ir_fit.specs.Fit.{FittedTrace}
use Rattle.ir_trace.specs.Recorded.{recorded_thread}
use Rattle.ir_coherence.specs.Before.{IsBefore}
use Rattle.ir_picture.specs.Boxes.{IsInBox, HasBox}
use Rattle.ir_picture.specs.Boxing.{EndsBy, AreBoxesApart, HasLastBox}
use Rattle.ir_picture.specs.declared.event_box.EventBox.{EventBox}
use Rattle.ir_run_picture.specs.Brief.{AreFoldedIn, IsRunBox}

-- whether event n of thread t is in one box of a run with the event before it
abbrev pub IsFoldIn : FittedTrace → ℕ → ℕ → Bool → Type 0
IsFoldIn f t n true = (i : ℕ) × (n ≡ suc i) × AreFoldedIn f t i n
IsFoldIn f t n false = (i : ℕ) → n ≡ suc i → AreFoldedIn f t i n → ⊥

-- the boxes are those of the events of a run before event n of thread t
pub record RunBoxedBefore (f : FittedTrace) (t n : ℕ) (boxes : List EventBox) : Type 0 where
  pub each : (k : ℕ) (b : EventBox) → slice_get boxes k ≡ Some b → IsRunBox f b
  pub before : (k : ℕ) (b : EventBox) → slice_get boxes k ≡ Some b → EndsBy b t n
  pub all : (u i : ℕ) → i < length (recorded_thread f.recorded u).events → IsBefore u i t n → HasBox boxes u i
  pub apart : AreBoxesApart boxes
  pub joined : (k u i : ℕ) (b : EventBox) → slice_get boxes k ≡ Some b → IsInBox b u i → AreFoldedIn f u i (suc i) → IsBefore u (suc i) t n
      → IsInBox b u (suc i)
  pub last : HasLastBox boxes t n
