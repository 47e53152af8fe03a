-- What the complete runs of a guest come to.
use Rattle.std.specs.Prelude.{◌≡◌, ℕ, ◌≤◌, List, Option, Some, slice_get}
use Rattle.ir_search.specs.declared.origin.Origin.{Origin}
use Rattle.ir_runs.specs.Run as run
use Rattle.ir_search_laws.specs.Counting.{entering}
use Rattle.ir_search_laws.specs.Outcomes.{switches}
use Rattle.ir_thread.specs.State.{ThreadState, most_budget, thread_machine}
use Rattle.ir_thread.specs.declared.end.End.{End}
use Rattle.ir_flat.specs.Flat.{machine, tables, start_flat}
use Rattle.ir_state_store.specs.Nodes.{SourcedFlat}
use Rattle.ir_graph.specs.Setup.{Setup, IsCountedOf}

-- of each thread how it ended and what it printed, of each object its words
pub record RunOutcome : Type 0 where
  pub ends : ℕ → Option End
  pub outputs : ℕ → List ℕ
  pub words : ℕ → ℕ → ℕ

abbrev pub run_outcome : run.State ThreadState → RunOutcome
run_outcome s = record { ends = λ t. (s.now t).ended; outputs = λ t. (s.now t).output; words = λ o. (s.objects o).words }

-- A state of the list where all threads are done has the outcome of this complete run.
abbrev pub IsListed : Setup → List SourcedFlat → ℕ → List run.Step → ℕ → SourcedFlat → Type 0
IsListed x states budget steps v s = (slice_get states v ≡ Some s) × run.IsDone (machine s.flat) (tables s.flat)
    × (run_outcome (tables s.flat) ≡ run_outcome (run.end (thread_machine x.guest.code) (tables (start_flat x.guest budget x.profile)) steps))

-- The outcome of each complete run is listed, whatever its budget; runs in which a budget is spent or a log is full aside.
abbrev pub AllListed : Setup → List SourcedFlat → Type 0
AllListed x states = (budget : ℕ) (steps : List run.Step) → IsCountedOf x budget steps
    → (v : ℕ) × (s : SourcedFlat) × IsListed x states budget steps v s

-- The same of the runs of at most c switches, at a node of level c at most.
abbrev pub WithinListed : Setup → List SourcedFlat → List Origin → ℕ → Type 0
WithinListed x states origins c = (budget : ℕ) (steps : List run.Step) → IsCountedOf x budget steps
    → switches (entering (thread_machine x.guest.code) (tables (start_flat x.guest budget x.profile)) steps) ≤ c
    → (v : ℕ) × (s : SourcedFlat) × (n : Origin) × IsListed x states budget steps v s × (slice_get origins v ≡ Some n) × (n.level ≤ c)

-- The outcome of each listed state where all threads are done is that of a complete run of the guest.
abbrev pub AllShown : Setup → List SourcedFlat → Type 0
AllShown x states = (v : ℕ) (s : SourcedFlat) → slice_get states v ≡ Some s → run.IsDone (machine s.flat) (tables s.flat)
    → (steps : List run.Step) × IsCountedOf x most_budget steps × IsListed x states most_budget steps v s
