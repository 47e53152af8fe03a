-- The nodes of a guest's graph: its states at rest, as the threads see them.
use Rattle.std.specs.Prelude.{◌≡◌, ℕ, ◌<◌, Bool, List, length, Option, Some, None, slice_get}
use Rattle.ir_runs.specs.Machine.{Machine}
use Rattle.ir_runs.specs.Run as run
use Rattle.ir_search_laws.specs.Counting.{AnswersCall}
use Rattle.ir_search_laws.specs.Looks.{Looks}
use Rattle.ir_search_laws.specs.Nodes.{LeadsToNode}
use Rattle.ir_search_laws.specs.Orders.{is_refusal}
use Rattle.ir_search_laws.specs.Sources.{sourced, by_source}
use Rattle.ir_search_laws.specs.Views.{viewed, beside}
use Rattle.ir_thread.specs.State.{ThreadState, ask_of}
use Rattle.ir_world.specs.Sources.{Source, given}
use Rattle.ir_flat.specs.Flat.{Flat, tables, thread_of}
use Rattle.ir_likeness.specs.Seen.{view, seen_machine, Same}
use Rattle.ir_state_store.specs.Nodes.{SourcedFlat, source_of}
use Rattle.ir_graph.specs.Plain.{Rests, LooksAlike}

-- the threads that run this code, as a search sees them, each with its source beside it
abbrev pub seen_by : List ℕ → Machine (ThreadState × Source)
seen_by code = sourced (seen_machine code) given

-- each is answered by its own source
abbrev pub answered_by : List ℕ → AnswersCall (ThreadState × Source)
answered_by code = by_source (seen_machine code) given

-- states that look the same
abbrev pub Alike : List ℕ → run.State (ThreadState × Source) → run.State (ThreadState × Source) → Type 0
Alike code = Looks (Same code)

-- what is seen of a guest, each thread beside what answers it
abbrev pub seen_of : SourcedFlat → run.State (ThreadState × Source)
seen_of s = beside (viewed view (tables s.flat)) (source_of s)

-- two moments of a guest look the same to every thread
abbrev pub LookAlike : SourcedFlat → SourcedFlat → Type 0
LookAlike s u = Alike s.flat.code (seen_of s) (seen_of u)

-- each thread rests
abbrev pub AllRest : Flat → Type 0
AllRest f = (t : ℕ) → t < length f.threads → Rests (ask_of f.code (thread_of f t))

-- no two of these states look the same to every thread
abbrev pub AreApart : List SourcedFlat → Type 0
AreApart states = (v w : ℕ) (s u : SourcedFlat) → slice_get states v ≡ Some s → slice_get states w ≡ Some u → LookAlike s u → v ≡ w

-- states of one guest, at each of which all threads rest and each has a source, and no two of which look the same to every thread
pub record AreNodes (states : List SourcedFlat) : Type 0 where
  pub each : (v : ℕ) (s : SourcedFlat) → slice_get states v ≡ Some s → length s.sources ≡ length s.flat.threads
  pub rest : (v : ℕ) (s : SourcedFlat) → slice_get states v ≡ Some s → AllRest s.flat
  pub like : (v w : ℕ) (s u : SourcedFlat) → slice_get states v ≡ Some s → slice_get states w ≡ Some u → LooksAlike s.flat u.flat
  pub apart : AreApart states

-- no more than nodes were added
abbrev pub NodesStay : List SourcedFlat → List SourcedFlat → Type 0
NodesStay old new = (v : ℕ) (s : SourcedFlat) → slice_get old v ≡ Some s → slice_get new v ≡ Some s

-- the step of a state is a refused try, or it isn't
abbrev pub IsStepBy : SourcedFlat → Bool → run.Step → Type 0
IsStepBy s refused e = is_refusal (run.act (seen_by s.flat.code) (seen_of s) e) ≡ refused

-- thread t has such a step there
abbrev pub HasStepBy : SourcedFlat → ℕ → Bool → Type 0
HasStepBy s t refused = (r : ℕ) × run.Can (seen_by s.flat.code) (seen_of s) (t, r) × IsStepBy s refused (t, r)

-- Where thread t leads from node v by one of its two ways, its refused try or any other step: it has no such step there, or it has one, and
-- each leads to node w.
abbrev pub LeadsFrom : List SourcedFlat → ℕ → Bool → ℕ → Option ℕ → Type 0
LeadsFrom states t refused v None = (s : SourcedFlat) → slice_get states v ≡ Some s → (e : run.Step) → e.0 ≡ t → IsStepBy s refused e
    → run.Can (seen_by s.flat.code) (seen_of s) e → ⊥
LeadsFrom states t refused v (Some w) = (s u : SourcedFlat) → slice_get states v ≡ Some s → slice_get states w ≡ Some u
    → HasStepBy s t refused × ((e : run.Step) → e.0 ≡ t → IsStepBy s refused e → run.Can (seen_by s.flat.code) (seen_of s) e
    → LeadsToNode (seen_by s.flat.code) (answered_by s.flat.code) (Alike s.flat.code) (seen_of s) e (seen_of u))
