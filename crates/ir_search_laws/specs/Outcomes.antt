-- What complete runs come to, and what a search over nodes says of that.
use Rattle.std.specs.Prelude.{◌≡◌, ℕ, suc, ◌≤◌, ◌<◌, cond, eqb, List, [], ◌∷◌}
use Rattle.ir_runs.specs.Machine.{Machine}
use Rattle.ir_runs.specs.Run.{State, Step, Can, end, IsDone}
use Rattle.ir_search_laws.specs.Counting.{AnswersCall, IsAtRest, RunCounts, GoesAhead, entering}
use Rattle.ir_search_laws.specs.Nodes.{LeadsToNode, Noted, Path}

-- some complete run that counts comes to x
abbrev pub IsOutcome : {T X : Type 0} → Machine T → AnswersCall T → State T → (State T → X) → X → Type 0
IsOutcome m answers s outcome x = (run : List Step) × RunCounts m answers s run × IsDone m (end m s run) × (outcome (end m s run) ≡ x)

-- how often the thread changes in an order that goes on after t
abbrev pub changes : ℕ → List ℕ → ℕ
changes t [] = 0
changes t (u ∷ ts) = cond (eqb u t) (changes t ts) (suc (changes u ts))

-- how often two neighbours differ
abbrev pub switches : List ℕ → ℕ
switches [] = 0
switches (t ∷ ts) = changes t ts

-- some complete run that counts comes to x with at most c switches
abbrev pub IsOutcomeWithin : {T X : Type 0} → ℕ → Machine T → AnswersCall T → State T → (State T → X) → X → Type 0
IsOutcomeWithin c m answers s outcome x = (run : List Step) × RunCounts m answers s run × IsDone m (end m s run)
    × (outcome (end m s run) ≡ x) × (switches (entering m s run) ≤ c)

-- a run that counts, and that no run which counts continues to a complete one
abbrev pub IsHang : {T : Type 0} → Machine T → AnswersCall T → State T → List Step → Type 0
IsHang m answers s run = RunCounts m answers s run × ((more : List Step) → RunCounts m answers (end m s run) more
    → IsDone m (end m (end m s run) more) → ⊥)

-- the threads go on from s, by steps that no other can refuse, up to what is alike to v
pub record Begins {T : Type 0} (m : Machine T) (answers : AnswersCall T) (Alike : State T → State T → Type 0) (s v : State T) : Type 0 where
  pub ahead : List Step
  pub goes : GoesAhead m answers s ahead
  pub alike : Alike (end m s ahead) v

-- A search from s is finished: its first node is the start at rest, each node is at rest, each step that a thread can take there leads to a
-- node that was noted to come next, and what was noted leads from the first to each.
pub record IsFinished {T K : Type 0} (m : Machine T) (answers : AnswersCall T) (Alike : State T → State T → Type 0) (s : State T)
    (state_of : K → State T) (Node : K → Type 0) (Next : Noted K) (first : K) : Type 0 where
  pub begins : Begins m answers Alike s (state_of first)
  pub is : Node first
  pub at_rest : (v : K) → Node v → IsAtRest m (state_of v)
  pub leads : (v : K) → Node v → (e : Step) (w : K) → Next v e w → Node w × LeadsToNode m answers Alike (state_of v) e (state_of w)
  pub followed : (v : K) → Node v → (e : Step) → Can m (state_of v) e → (w : K) × Next v e w
  pub reached : (v : K) → Node v → (ts : List ℕ) × Path Next first ts v

-- A search from s has gone over c levels: Open k v t says that by the end of level k node v was opened for thread t.
pub record Covers {T K : Type 0} (m : Machine T) (answers : AnswersCall T) (Alike : State T → State T → Type 0) (s : State T)
    (state_of : K → State T) (Open : ℕ → K → ℕ → Type 0) (first : K) (c : ℕ) : Type 0 where
  pub begins : Begins m answers Alike s (state_of first)
  -- the first node is opened for each thread in level 0
  pub opens : (t : ℕ) → Open 0 first t
  pub at_rest : (k t : ℕ) (v : K) → Open k v t → IsAtRest m (state_of v)
  -- a thread that goes on alone goes on in the same level
  pub followed : (k : ℕ) (v : K) (e : Step) → Open k v e.0 → Can m (state_of v) e
      → (w : K) × Open k w e.0 × LeadsToNode m answers Alike (state_of v) e (state_of w)
  -- another thread's turn comes in the next
  pub turned : (k t u : ℕ) (v : K) → Open k v t → k < c → Open (suc k) v u

-- what was noted leads from v to where all are done
abbrev pub HasWay : {T K : Type 0} → Machine T → (K → State T) → Noted K → K → Type 0
HasWay {T} {K} m state_of Next v = (ts : List ℕ) × (w : K) × Path Next v ts w × IsDone m (state_of w)
