-- Where the runs of a guest end that count.
use Rattle.std.specs.Prelude.{◌≡◌, ℕ, ◌≤◌, List, Some, slice_get}
use Rattle.ir_search.specs.declared.origin.Origin.{Origin}
use Rattle.ir_runs.specs.Run.{State, Step, end}
use Rattle.ir_search_laws.specs.Counting.{IsAtRest, entering}
use Rattle.ir_search_laws.specs.Outcomes.{switches}
use Rattle.ir_thread.specs.State.{ThreadState, thread_machine}
use Rattle.ir_world.specs.Sources.{Source}
use Rattle.ir_flat.specs.Flat.{tables, start_flat}
use Rattle.ir_likeness.specs.Seen.{seen_start}
use Rattle.ir_state_store.specs.Nodes.{SourcedFlat}
use Rattle.ir_graph.specs.Setup.{Setup, first_source}
use Rattle.ir_graph.specs.Hangs.{IsCounting}
use Rattle.ir_graph.specs.Nodes.{seen_by, seen_of, Alike}

-- where a run ends, as its threads see it
abbrev pub seen_end : Setup → List Step → State (ThreadState × Source)
seen_end x steps = end (seen_by x.guest.code) (seen_start x.guest x.profile (first_source x)) steps

-- it ends at what looks the same to every thread as this state
abbrev pub EndsAt : Setup → List Step → SourcedFlat → Type 0
EndsAt x steps s = Alike x.guest.code (seen_end x steps) (seen_of s)

-- how often the thread that enters or tries is switched in it
abbrev pub switches_in : Setup → ℕ → List Step → ℕ
switches_in x budget steps = switches (entering (thread_machine x.guest.code) (tables (start_flat x.guest budget x.profile)) steps)

-- a run of the guest that counts, and ends where each thread rests: it enters or tries next, or is done
pub record IsResting (x : Setup) (budget : ℕ) (steps : List Step) : Type 0 where
  pub counts : IsCounting x budget steps
  pub rests : IsAtRest (seen_by x.guest.code) (seen_end x steps)

-- each such run ends at one of these states
abbrev pub AllFound : Setup → List SourcedFlat → Type 0
AllFound x states = (budget : ℕ) (steps : List Step) → IsResting x budget steps
    → (v : ℕ) × (s : SourcedFlat) × (slice_get states v ≡ Some s) × EndsAt x steps s

-- each such run of at most c switches ends at one of these states, of level c at most
abbrev pub WithinFound : Setup → List SourcedFlat → List Origin → ℕ → Type 0
WithinFound x states origins c = (budget : ℕ) (steps : List Step) → IsResting x budget steps → switches_in x budget steps ≤ c
    → (v : ℕ) × (s : SourcedFlat) × (n : Origin) × (slice_get states v ≡ Some s) × (slice_get origins v ≡ Some n) × (n.level ≤ c) × EndsAt x steps s

-- no run of the guest that counts ends at this state with fewer switches
abbrev pub NeedsSwitches : Setup → SourcedFlat → ℕ → Type 0
NeedsSwitches x s c = (budget : ℕ) (steps : List Step) → IsCounting x budget steps → EndsAt x steps s → c ≤ switches_in x budget steps
