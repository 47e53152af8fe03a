-- Calls for the time in the runs of a guest.
use Rattle.std.specs.Prelude.{◌≡◌, ℕ, Bool, true, false, List, [], ◌∷◌, Some, slice_get}
use Rattle.ir_search.specs.Following.{BothWays}
use Rattle.ir_runs.specs.Machine.{Label, Quiet, Answer, EnteredAt, FailedTry, LeftAt}
use Rattle.ir_runs.specs.declared.env_kind.EnvKind.TheVariants.{Clock, Random, Input}
use Rattle.ir_runs.specs.Run.{State, Step, Can, log}
use Rattle.ir_search_laws.specs.Nodes.{LeadsToNode}
use Rattle.ir_search_laws.specs.Outcomes.{Begins}
use Rattle.ir_thread.specs.State.{ThreadState, thread_machine}
use Rattle.ir_world.specs.Sources.{Source}
use Rattle.ir_flat.specs.Flat.{tables, start_flat}
use Rattle.ir_likeness.specs.Seen.{seen_start}
use Rattle.ir_state_store.specs.Nodes.{SourcedFlat}
use Rattle.ir_graph.specs.Hangs.{IsCounting}
use Rattle.ir_graph.specs.Nodes.{seen_by, answered_by, seen_of, Alike, IsStepBy}
use Rattle.ir_graph.specs.Setup.{Setup, first_source}

-- the log has an answer to a call for the time
abbrev pub HasTime : List Label → Type 0
HasTime [] = ⊥
HasTime (Quiet ∷ es) = HasTime es
HasTime (Answer Clock v ∷ es) = Unit {0}
HasTime (Answer Random v ∷ es) = HasTime es
HasTime (Answer Input v ∷ es) = HasTime es
HasTime (EnteredAt o a v l ∷ es) = HasTime es
HasTime (FailedTry o ∷ es) = HasTime es
HasTime (LeftAt o a v ∷ es) = HasTime es

-- in this run of the guest some thread is answered a call for the time
abbrev pub IsTimedRun : Setup → ℕ → List Step → Type 0
IsTimedRun x budget steps = (t : ℕ) × HasTime (log (thread_machine x.guest.code) (tables (start_flat x.guest budget x.profile)) steps t)

-- the guest has such a run that counts
abbrev pub HasTimedRun : Setup → Type 0
HasTimedRun x = (budget : ℕ) × (steps : List Step) × IsCounting x budget steps × IsTimedRun x budget steps

-- no source of a thread has answered a call for the time
abbrev pub IsTickless : State (ThreadState × Source) → Type 0
IsTickless s = (t : ℕ) → (s.now t).1.ticks ≡ 0

-- states that look the same, of which the first is so
abbrev pub AlikeTickless : List ℕ → State (ThreadState × Source) → State (ThreadState × Source) → Type 0
AlikeTickless code s v = Alike code s v × IsTickless s

-- where each step of thread t by this way leads from node v to node w, no source has answered a call for the time
abbrev pub LeadsTickless : List SourcedFlat → ℕ → Bool → ℕ → ℕ → Type 0
LeadsTickless states t refused v w = (s u : SourcedFlat) → slice_get states v ≡ Some s → slice_get states w ≡ Some u
    → (e : Step) → e.0 ≡ t → IsStepBy s refused e → Can (seen_by s.flat.code) (seen_of s) e
    → LeadsToNode (seen_by s.flat.code) (answered_by s.flat.code) (AlikeTickless s.flat.code) (seen_of s) e (seen_of u)

-- What is known of calls for the time by the nodes and ways of a graph: some run of the guest answers one, or none is answered on a way that
-- was noted.
pub record KnowsTimes (x : Setup) (states : List SourcedFlat) (noted : ℕ → BothWays) (timed : Bool) : Type 0 where
  pub has : timed ≡ true → HasTimedRun x
  pub begins : timed ≡ false → (s : SourcedFlat) → slice_get states 0 ≡ Some s
      → Begins (seen_by x.guest.code) (answered_by x.guest.code) (AlikeTickless x.guest.code) (seen_start x.guest x.profile (first_source x)) (seen_of s)
  pub leads : timed ≡ false → (t : ℕ) (refused : Bool) (v w : ℕ) → noted t refused v ≡ Some (Some w) → LeadsTickless states t refused v w
