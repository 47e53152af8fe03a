-- What the nodes of a graph keep while one may be added, and where a way leads.
use Rattle.std.specs.Prelude.{◌≡◌, ◌⊎◌, ℕ, suc, ◌<◌, ◌≤◌, Bool, true, false, List, length, Option, Some, slice_get}
use Rattle.ir_state_store.specs.Nodes.{IsNode, Node, Shared, SourcedFlat, sourced_in}
use Rattle.ir_graph.specs.Nodes.{LookAlike, AllRest, AreNodes, NodesStay, LeadsFrom}
use Rattle.ir_graph.specs.Plain.{LooksAlike}
use Rattle.ir_graph.specs.Reached.{AllReached}
use Rattle.ir_graph.specs.Setup.{Setup}
use Rattle.ir_graph.specs.Times.{HasTimedRun, LeadsTickless}
use Rattle.ir_graph.specs.declared.way.Way.{Way}

-- the way is that of a thread at one of these nodes
pub record IsWayAt (nodes : List SourcedFlat) (way : Way) : Type 0 where
  pub node : way.node < length nodes
  pub thread : (s : SourcedFlat) → slice_get nodes way.node ≡ Some s → way.thread < length s.flat.threads

-- a state by numbers, of the guest that these nodes are of, at which all threads rest
pub record IsRestingState (nodes : List SourcedFlat) (shared : Shared) (codes : List ℕ) (new : Node) : Type 0 where
  pub is : IsNode shared new
  pub code : codes ≡ new.code
  pub like : (v : ℕ) (s : SourcedFlat) → slice_get nodes v ≡ Some s → LooksAlike (sourced_in shared new).flat s.flat
  pub rest : AllRest (sourced_in shared new).flat

-- nodes were added, to no more than `most`
pub record NodesAdded (most : ℕ) (old new : List SourcedFlat) : Type 0 where
  pub nodes : AreNodes new
  pub stay : NodesStay old new
  pub grown : length old ≤ length new
  pub room : length new ≤ most

-- Nodes were added, to no more than `most`, and each is reached as those before were. Before it was `was`, and now it is `timed`, that some run
-- of the guest has a call for the time.
pub record NodesKept (most : ℕ) (old new : List SourcedFlat) (was timed : Bool) : Type 0 where
  pub adds : NodesAdded most old new
  pub reached : (x : Setup) → AllReached x old → AllReached x new
  pub has : (x : Setup) → AllReached x old → (was ≡ true → HasTimedRun x) → timed ≡ true → HasTimedRun x
  pub were : timed ≡ false → was ≡ false

-- node w looks the same as this state: it was there, or it is the one that was added
pub record IsNodeFor (old new : List SourcedFlat) (state : SourcedFlat) (w : ℕ) : Type 0 where
  pub within : w < length new
  pub added : (length new ≡ length old) ⊎ ((w ≡ length old) × (length new ≡ suc (length old)))
  pub alike : (s : SourcedFlat) → slice_get new w ≡ Some s → LookAlike state s

-- Where the way leads: to no node, to a node that was there, or to the one that was added. If no call for the time is known of, none is
-- answered on the way.
pub record IsSuccessor (old new : List SourcedFlat) (timed : Bool) (way : Way) (next : Option ℕ) : Type 0 where
  pub within : (w : ℕ) → next ≡ Some w → w < length new
  pub added : (length new ≡ length old) ⊎ ((next ≡ Some (length old)) × (length new ≡ suc (length old)))
  pub leads : LeadsFrom new way.thread way.refused way.node next
  pub tickless : (w : ℕ) → next ≡ Some w → timed ≡ false → LeadsTickless new way.thread way.refused way.node w
