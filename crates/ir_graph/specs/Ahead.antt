-- Turns of threads that are known.
use Rattle.std.specs.Prelude.{◌≡◌, ℕ, ◌<◌, Bool, true, false, List, length, slice_index}
use Rattle.std.specs.List.{slice_index_or, AllByRecursion}
use Rattle.ir_thread.specs.State.{ask_of}
use Rattle.ir_object.specs.Empty.{empty}
use Rattle.ir_state_store.specs.Nodes.{Shared, SourcedFlat, cells_at, HaveWords, sourced_thread}
use Rattle.ir_state_store.specs.Table.{idle_beside}
use Rattle.ir_graph.specs.Hand.{AllPairs, EachOnce, IsAtSpot}
use Rattle.ir_graph.specs.Lone.{MustWait, TakesTurn}
use Rattle.ir_graph.specs.Plain.{MayGo}
use Rattle.ir_graph.specs.declared.known.Turn.{Turn}

-- the thread and the objects of these numbers become those of the others by a turn of the thread, or the thread has to wait for the first object
pub record IsTurn (code : List ℕ) (shared : Shared) (turn : Turn) : Type 0 where
  pub from : turn.from < length shared.threads
  pub to : turn.to < length shared.threads
  pub some : 0 < length turn.numbers.items
  pub once : EachOnce turn.numbers.items
  pub spots : HaveWords shared.words turn.spots.items
  pub afters : HaveWords shared.words turn.afters.items
  pub tries : turn.tries ≡ false → MayGo true (ask_of code (slice_index_or shared.threads turn.from idle_beside).0) → ⊥
  pub waits : turn.waits ≡ true → MustWait turn.refused (slice_index turn.numbers.items 0)
      (slice_index_or (cells_at shared.words turn.spots.items) 0 empty).fields (ask_of code (slice_index_or shared.threads turn.from idle_beside).0)
  pub takes : turn.waits ≡ false → TakesTurn code turn.numbers.items turn.refused (slice_index_or shared.threads turn.from idle_beside)
      (cells_at shared.words turn.spots.items) (slice_index_or shared.threads turn.to idle_beside) (cells_at shared.words turn.afters.items)

abbrev pub AreTurns : List ℕ → Shared → List Turn → Type 0
AreTurns code shared turns = AllByRecursion (IsTurn code shared) turns

-- a turn from where thread t of a state and the objects of the turn are, with a try refused or not
pub record IsAheadFrom (shared : Shared) (s : SourcedFlat) (t : ℕ) (refused : Bool) (turn : Turn) : Type 0 where
  pub way : turn.refused ≡ refused
  pub here : slice_index_or shared.threads turn.from idle_beside ≡ sourced_thread s t
  pub there : AllPairs (IsAtSpot shared.words s.flat.objects) turn.numbers.items turn.spots.items

-- it is the turn of thread t of a state, with a try refused or not
pub record IsTurnOf (code : List ℕ) (shared : Shared) (s : SourcedFlat) (t : ℕ) (refused : Bool) (turn : Turn) : Type 0 where
  pub is : IsTurn code shared turn
  pub from : IsAheadFrom shared s t refused turn
