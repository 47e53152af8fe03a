-- Runs of a guest by turns of its threads.
use Rattle.std.specs.Prelude.{◌≡◌, ℕ, Bool, List, [], ◌∷◌, ◌++◌, length, map}
use Rattle.ir_search.specs.declared.origin.Origin.{Origin}
use Rattle.ir_search.specs.declared.origin.Refusal.{Refusal}
use Rattle.ir_search.specs.Origins.{AreWaysOf}
use Rattle.ir_record.specs.Refusing.{Turn, InTurns}
use Rattle.ir_runs.specs.Run.{Step, end}
use Rattle.ir_state_store.specs.Nodes.{SourcedFlat}
use Rattle.ir_graph.specs.Plain.{full_by, full_of, IsAnsweredRun, LooksAlike}
use Rattle.ir_graph.specs.Reached.{beginning}
use Rattle.ir_graph.specs.Setup.{Setup, setup_start}
use Rattle.ir_graph.specs.Turn.{ways_taken}

-- each of the turns takes a step of its thread
abbrev pub TakesEach : List Turn → List Step → Type 0
TakesEach turns steps = map (λ (e : Step). e.0) steps ≡ map (λ (t : Turn). t.0) turns

-- s is the guest after a run by these turns from its start, which goes these ways: so its threads enter and try, in turn, and no try but those is
-- refused. Each call is answered by its thread's source.
pub record IsAgain (setup : Setup) (turns : List Turn) (ways : List (ℕ × Bool)) (s : SourcedFlat) : Type 0 where
  pub like : LooksAlike (setup_start setup).flat s.flat
  pub steps : List Step
  pub answered : IsAnsweredRun setup.guest.code (beginning setup) steps
  pub in_turns : InTurns (full_by setup.guest.code) (beginning setup) turns steps
  pub taken : TakesEach turns steps
  pub ends : full_of s ≡ end (full_by setup.guest.code) (beginning setup) steps
  pub goes : ways_taken (full_by setup.guest.code) (beginning setup) steps ≡ ways
  pub each : length s.sources ≡ length s.flat.threads

-- thread t by each of these ways
abbrev pub ways_by : ℕ → List Bool → List (ℕ × Bool)
ways_by t ways = map (λ refused. (t, refused)) ways

-- the ways of a path's turns, of which the last comes first
abbrev pub AreWaysBack : List Refusal → List Origin → List (ℕ × Bool) → Type 0
AreWaysBack table [] ways = ways ≡ []
AreWaysBack table (n ∷ path) ways = (before : List (ℕ × Bool)) × AreWaysBack table path before
    × (own : List Bool) × AreWaysOf table n own × (ways ≡ before ++ ways_by n.thread own)

-- s is the guest after such a run, which goes the ways of this path and no others
pub record IsAgainBy (setup : Setup) (turns : List Turn) (table : List Refusal) (path : List Origin) (s : SourcedFlat) : Type 0 where
  pub ways : List (ℕ × Bool)
  pub back : AreWaysBack table path ways
  pub again : IsAgain setup turns ways s
