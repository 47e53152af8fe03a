-- What the numbers of a search stand for: states of a machine of threads at rest.
use Rattle.std.specs.Prelude.{◌≡◌, ℕ, ◌≤◌, ◌<◌, Bool, Some, None}
use Rattle.ir_runs.specs.Machine.{Machine}
use Rattle.ir_runs.specs.Run.{State, Step, act, Can}
use Rattle.ir_search_laws.specs.Counting.{AnswersCall, IsAtRest}
use Rattle.ir_search_laws.specs.Nodes.{Noted, LeadsToNode}
use Rattle.ir_search_laws.specs.Orders.{is_refusal}
use Rattle.ir_search_laws.specs.Outcomes.{Begins}
use Rattle.ir_search.specs.Following.{BothWays}

-- The nodes below `size` are states at rest, of which the first is where the machine comes to rest from s, and only these threads have steps
-- there. What was noted of each thread's two ways is so: where a way leads to no node the thread has no step of it; where it leads to one the
-- thread has such a step, and each of them leads there. One way is its refused try, the other all its other steps.
pub record Means {T : Type 0} (m : Machine T) (answers : AnswersCall T) (Alike : State T → State T → Type 0) (s : State T) (state_of : ℕ → State T)
    (noted : ℕ → BothWays) (threads size : ℕ) : Type 0 where
  pub begins : Begins m answers Alike s (state_of 0)
  pub at_rest : (v : ℕ) → v < size → IsAtRest m (state_of v)
  pub idle : (v : ℕ) → v < size → (e : Step) → threads ≤ e.0 → Can m (state_of v) e → ⊥
  pub stays : (t : ℕ) (refused : Bool) (v : ℕ) → v < size → noted t refused v ≡ Some None → (e : Step) → e.0 ≡ t
      → is_refusal (act m (state_of v) e) ≡ refused → Can m (state_of v) e → ⊥
  pub can : (t : ℕ) (refused : Bool) (v w : ℕ) → v < size → noted t refused v ≡ Some (Some w)
      → (r : ℕ) × Can m (state_of v) (t, r) × (is_refusal (act m (state_of v) (t, r)) ≡ refused)
  pub leads : (t : ℕ) (refused : Bool) (v w : ℕ) → v < size → noted t refused v ≡ Some (Some w) → (e : Step) → e.0 ≡ t
      → is_refusal (act m (state_of v) e) ≡ refused → Can m (state_of v) e → LeadsToNode m answers Alike (state_of v) e (state_of w)

-- a step that was noted to lead from one node below `size` to another
abbrev pub Steps : {T : Type 0} → Machine T → (ℕ → State T) → (ℕ → BothWays) → ℕ → Noted ℕ
Steps m state_of noted size v e w = (noted e.0 (is_refusal (act m (state_of v) e)) v ≡ Some (Some w)) × (v < size) × (w < size)
    × Can m (state_of v) e
