-- States that are brought along a path to a node of a guest's graph.
use Rattle.std.specs.Prelude.{◌≡◌, ℕ, Bool, List, Some, length, slice_get}
use Rattle.ir_search.specs.declared.origin.Origin.{Origin}
use Rattle.ir_search.specs.declared.origin.Refusal.{Refusal}
use Rattle.ir_search.specs.Following.{BothWays}
use Rattle.ir_search.specs.Origins.{AreReached, AreWaysOf, Goes}
use Rattle.ir_state_store.specs.Nodes.{SourcedFlat}
use Rattle.ir_graph.specs.Graph.{IsGraph}
use Rattle.ir_graph.specs.Nodes.{LookAlike, AllRest}
use Rattle.ir_graph.specs.Reached.{IsReached}
use Rattle.ir_graph.specs.Setup.{Setup}
use Rattle.ir_graph.specs.Stops.{IsStop}
use Rattle.ir_outcomes.specs.Path.{IsPathTo}
use Rattle.ir_outcomes.specs.declared.rerun_error.RerunError.{RerunError}
use Rattle.ir_outcomes.specs.declared.rerun_error.RerunError.TheVariants.{NoMemory, NoWay, Stopped}

-- s looks the same to every thread as state v of these, and some run of the guest leads to it
pub record StandsAt (setup : Setup) (flats : List SourcedFlat) (v : ℕ) (s : SourcedFlat) : Type 0 where
  pub node : SourcedFlat
  pub at : slice_get flats v ≡ Some node
  pub alike : LookAlike s node
  pub rest : AllRest s.flat
  pub reached : IsReached setup s
  pub each : length s.sources ≡ length s.flat.threads

-- why a guest isn't run to a node: memory ends, or a run leads to a thread that is not followed
abbrev pub MayFail : Setup → ℕ → RerunError → Type 0
MayFail setup limit NoMemory = Unit {0}
MayFail setup limit NoWay = ⊥
MayFail setup limit (Stopped stop) = IsStop setup limit stop

-- If a state stands at node v of a guest's graph, and these ways of the thread lead from there to w, the other state stands at w.
abbrev pub ArrivesBy : ℕ → List Bool → SourcedFlat → SourcedFlat → Type 0
ArrivesBy t ways s u = (setup : Setup) (flats : List SourcedFlat) (noted : ℕ → BothWays) (threads size v w : ℕ) → IsGraph setup flats noted threads
    → StandsAt setup flats v s → Goes (noted t) size v ways w → StandsAt setup flats w u

-- If so, what keeps the guest from coming there is no way that is missing: memory ends, or a run leads to a thread that is not followed.
abbrev pub FailsBy : ℕ → ℕ → List Bool → SourcedFlat → RerunError → Type 0
FailsBy limit t ways s e = (setup : Setup) (flats : List SourcedFlat) (noted : ℕ → BothWays) (threads size v w : ℕ) → IsGraph setup flats noted threads
    → StandsAt setup flats v s → Goes (noted t) size v ways w → MayFail setup limit e

-- each of these turns has ways
abbrev pub HaveWays : List Refusal → List Origin → Type 0
HaveWays table path = (i : ℕ) (n : Origin) → slice_get path i ≡ Some n → (ways : List Bool) × AreWaysOf table n ways

-- the state stands at the first node of a guest's graph, in which a path leads to this node by the ways of its turns
pub record AlongPath (table : List Refusal) (path : List Origin) (node : ℕ) (s : SourcedFlat) : Type 0 where
  pub setup : Setup
  pub flats : List SourcedFlat
  pub noted : ℕ → BothWays
  pub threads : ℕ
  pub origins : List Origin
  pub graph : IsGraph setup flats noted threads
  pub reached : AreReached noted table origins
  pub leads : IsPathTo origins node path
  pub stands : StandsAt setup flats 0 s
