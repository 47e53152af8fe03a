-- Why a search over the states of a guest stops.
use Rattle.std.specs.Prelude.{◌≡◌, ℕ, ◌≤◌, ◌+◌, ◌^◌, false, List, Some, length}
use Rattle.ir_search.specs.declared.stop.Stop.{Stop}
use Rattle.ir_search.specs.declared.stop.Stop.TheVariants.{Nodes, Private, Log, World, Memory, Time}
use Rattle.ir_thread.specs.State.{ask_of}
use Rattle.ir_runs.specs.declared.env_kind.EnvKind.TheVariants.{Clock}
use Rattle.ir_thread.specs.declared.ask.Ask.{Ask}
use Rattle.ir_thread.specs.declared.ask.Ask.TheVariants as ask
use Rattle.ir_thread.specs.declared.end.End.TheVariants as ending
use Rattle.ir_world.specs.Sources.{Source}
use Rattle.ir_flat.specs.Flat.{thread_of}
use Rattle.ir_state_store.specs.Nodes.{SourcedFlat, source_of}
use Rattle.ir_graph.specs.Setup.{Setup}
use Rattle.ir_graph.specs.Plain.{IsFair}
use Rattle.ir_graph.specs.Reached.{IsReached}
use Rattle.ir_graph.specs.declared.bounds.Bounds.{Bounds}
use Rattle.ir_graph.specs.Turn.{GoesAlone}

-- a thread that asks so has spent its budget, or its log is full
abbrev pub IsSpent : Ask → Type 0
IsSpent (ask.End ending.BudgetSpent) = Unit {0}
IsSpent (ask.End ending.LogFull) = Unit {0}
IsSpent _ = ⊥

-- a thread that asks so calls for the time, and its count is at its end
abbrev pub IsCall : Ask → Source → Type 0
IsCall (ask.Env Clock) source = 2 ^ 32 ≤ source.ticks + 1
IsCall _ source = ⊥

-- why thread t, which asks so, is not followed
abbrev pub IsNotFollowed : ℕ → Ask → Source → Stop → Type 0
IsNotFollowed t asked source (Log u) = (u ≡ t) × IsSpent asked
IsNotFollowed t asked source (World u) = (u ≡ t) × IsCall asked source
IsNotFollowed t asked source _ = ⊥

-- why thread t, which went on alone from s to u, is not followed from there: it took so many steps and goes on, or by what it asks
abbrev pub StopsFollowing : SourcedFlat → SourcedFlat → ℕ → ℕ → Stop → Type 0
StopsFollowing s u t limit (Private v) = (v ≡ t) × GoesAlone s u t false limit 0 × IsFair (ask_of u.flat.code (thread_of u.flat t))
StopsFollowing s u t limit (Log v) = IsNotFollowed t (ask_of u.flat.code (thread_of u.flat t)) (source_of u t) (Log v)
StopsFollowing s u t limit (World v) = IsNotFollowed t (ask_of u.flat.code (thread_of u.flat t)) (source_of u t) (World v)
StopsFollowing s u t limit _ = ⊥

-- runs of this guest lead to two states from the one of which a thread goes on to the other, where it is not followed
pub record IsStop (x : Setup) (limit : ℕ) (stop : Stop) : Type 0 where
  pub from : SourcedFlat
  pub at : SourcedFlat
  pub thread : ℕ
  pub before : IsReached x from
  pub reached : IsReached x at
  pub stops : StopsFollowing from at thread limit stop

-- Why a search over these states stops within its bounds: there are as many as there may be, out of memory, its seconds are bounded, or some
-- thread is not followed.
abbrev pub MayStop : Setup → List SourcedFlat → Bounds → Stop → Type 0
MayStop x states bounds Nodes = length states ≡ bounds.nodes
MayStop x states bounds Memory = Unit {0}
MayStop x states bounds Time = (seconds : ℕ) × (bounds.seconds ≡ Some seconds)
MayStop x states bounds why = IsStop x bounds.private why
