-- An outcome of a guest, and turns that lead to it.
use Rattle.std.specs.Prelude.{◌≡◌, ℕ, ◌≤◌, List, ◌++◌, length}
use Rattle.ir_record.specs.Refusing.{Turn, InTurns, IsByTurns}
use Rattle.ir_runs.specs.Run.{Step, end}
use Rattle.ir_search_laws.specs.Counting.{entering}
use Rattle.ir_search_laws.specs.Outcomes.{switches}
use Rattle.ir_thread.specs.State.{most_budget, thread_machine}
use Rattle.ir_flat.specs.Flat.{tables, start_flat}
use Rattle.ir_state_store.specs.Nodes.{SourcedFlat}
use Rattle.ir_graph.specs.Hangs.{IsCounting, CanEnd, CanEndFrom, IsHangOf}
use Rattle.ir_graph.specs.Outcomes.{RunOutcome, run_outcome}
use Rattle.ir_graph.specs.Setup.{Setup, IsCountedOf}
use Rattle.ir_outcomes.specs.Again.{TakesEach}

-- what a run of a guest comes to
abbrev pub outcome_by : Setup → ℕ → List Step → RunOutcome
outcome_by setup budget steps = run_outcome (end (thread_machine setup.guest.code) (tables (start_flat setup.guest budget setup.profile)) steps)

-- how often the thread that enters or tries is switched in it
abbrev pub switches_by : Setup → ℕ → List Step → ℕ
switches_by setup budget steps =
    switches (entering (thread_machine setup.guest.code) (tables (start_flat setup.guest budget setup.profile)) steps)

-- A run by these turns, each of which takes a step, is a complete one, each call of which is answered by its thread's source. It has the
-- outcome of the state, and switches the thread that enters or tries at most so often.
pub record IsShown (setup : Setup) (s : SourcedFlat) (level : ℕ) (turns : List Turn) : Type 0 where
  pub steps : List Step
  pub counted : IsCountedOf setup most_budget steps
  pub by_turns : IsByTurns (thread_machine setup.guest.code) (tables (start_flat setup.guest most_budget setup.profile)) (length setup.guest.entries)
      turns steps
  pub taken : TakesEach turns steps
  pub same : outcome_by setup most_budget steps ≡ run_outcome (tables s.flat)
  pub few : switches_by setup most_budget steps ≤ level

-- A run by these turns, each of which takes a step, counts, and stands at what looks the same as the state: it can be brought to an end only
-- where the state can. It switches the thread that enters or tries at most so often.
pub record IsShownAt (setup : Setup) (s : SourcedFlat) (level : ℕ) (turns : List Turn) : Type 0 where
  pub steps : List Step
  pub counting : IsCounting setup most_budget steps
  pub in_turns : InTurns (thread_machine setup.guest.code) (tables (start_flat setup.guest most_budget setup.profile)) turns steps
  pub taken : TakesEach turns steps
  pub stands : CanEnd setup steps → CanEndFrom s
  pub few : switches_by setup most_budget steps ≤ level

-- A run by these turns, each of which takes a step, hangs: no run that counts, of whatever budget, continues it to a complete one, unless a budget
-- is spent or a log is full. It switches the thread that enters or tries at most so often.
pub record IsHangShown (setup : Setup) (level : ℕ) (turns : List Turn) : Type 0 where
  pub steps : List Step
  pub hangs : IsHangOf setup most_budget steps
  pub never : (budget : ℕ) (more : List Step) → IsCountedOf setup budget (steps ++ more) → ⊥
  pub in_turns : InTurns (thread_machine setup.guest.code) (tables (start_flat setup.guest most_budget setup.profile)) turns steps
  pub taken : TakesEach turns steps
  pub few : switches_by setup most_budget steps ≤ level
