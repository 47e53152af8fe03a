-- One thread that goes on alone.
use Rattle.std.specs.Prelude.{◌≡◌, ℕ, Bool, cond, List, [], ◌∷◌, length, replicate}
use Rattle.ir_runs.specs.Machine.{Machine, Try}
use Rattle.ir_runs.specs.Run.{State, Step, asked, act, after, end}
use Rattle.ir_search_laws.specs.Counting.{is_own}
use Rattle.ir_search_laws.specs.Orders.{IsStepAlone, is_refusal}
use Rattle.ir_state_store.specs.Nodes.{SourcedFlat}
use Rattle.ir_graph.specs.Plain.{full_by, full_of, IsAnsweredRun, result_by}

-- each try of the run is refused, or enters
abbrev pub EachTries : {T : Type 0} → Machine T → Bool → State T → List Step → Type 0
EachTries m refused s [] = Unit {0}
EachTries m refused s (e ∷ run) = ((o : ℕ) → asked m s e.0 ≡ Try o → e.1 ≡ result_by refused) × EachTries m refused (after m s e) run

-- the ways that the run goes, in its order: of each entry and each try the thread, and whether it is a refused try
abbrev pub ways_taken : {T : Type 0} → Machine T → State T → List Step → List (ℕ × Bool)
ways_taken m s [] = []
ways_taken m s (e ∷ run) =
    cond (is_own (asked m s e.0)) (ways_taken m (after m s e) run) ((e.0, is_refusal (act m s e)) ∷ ways_taken m (after m s e) run)

-- u is s after so many steps of thread t, in which its calls are answered by its source. So many of them are entries and tries: all are refused
-- tries, or all enter.
pub record GoesAlone (s u : SourcedFlat) (t : ℕ) (refused : Bool) (steps entries : ℕ) : Type 0 where
  pub run : List Step
  pub many : length run ≡ steps
  pub alone : IsStepAlone t run
  pub answered : IsAnsweredRun s.flat.code (full_of s) run
  pub tries : EachTries (full_by s.flat.code) refused (full_of s) run
  pub ends : full_of u ≡ end (full_by s.flat.code) (full_of s) run
  pub ways : ways_taken (full_by s.flat.code) (full_of s) run ≡ replicate entries (t, refused)
  pub code : u.flat.code ≡ s.flat.code
  pub threads : length u.flat.threads ≡ length s.flat.threads
  pub objects : length u.flat.objects ≡ length s.flat.objects
  pub sources : length u.sources ≡ length s.sources
