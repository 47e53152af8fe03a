-- Nodes: states at rest over which all runs that count lead.
use Rattle.std.specs.Prelude.{◌≡◌, ℕ, List, [], ◌∷◌}
use Rattle.ir_runs.specs.Machine.{Machine}
use Rattle.ir_runs.specs.Run.{State, Step, asked, Can, after, end}
use Rattle.ir_search_laws.specs.Counting.{AnswersCall, IsAtRest, GoesAhead, entering}

-- that states are alike: no step tells them apart, and after a step they are alike again
pub record TellsNothing {T : Type 0} (m : Machine T) (answers : AnswersCall T) (Alike : State T → State T → Type 0) : Type 0 where
  pub asks : (s v : State T) → Alike s v → (t : ℕ) → asked m s t ≡ asked m v t
  pub answered : (s v : State T) → Alike s v → (t : ℕ) → answers t (s.now t) ≡ answers t (v.now t)
  pub can : (s v : State T) → Alike s v → (e : Step) → Can m s e → Can m v e
  pub steps : (s v : State T) → Alike s v → (e : Step) → Can m s e → Alike (after m s e) (after m v e)
  pub backwards : (s v : State T) → Alike s v → Alike v s
  pub onwards : (s v w : State T) → Alike s v → Alike v w → Alike s w

-- this step leads from v to w: after it the threads go on, by steps that no other can refuse, up to what is alike to w
pub record LeadsToNode {T : Type 0} (m : Machine T) (answers : AnswersCall T) (Alike : State T → State T → Type 0) (v : State T) (e : Step)
    (w : State T) : Type 0 where
  pub can : Can m v e
  pub ahead : List Step
  pub goes : GoesAhead m answers (after m v e) ahead
  pub alike : Alike (end m (after m v e) ahead) w

-- which node a search has noted to come next after which, and by which step; a node is anything that stands for a state
abbrev pub Noted : Type 0 → Type 1
Noted K = K → Step → K → Type 0

-- steps of these threads, in this order, lead from v to w as it was noted
abbrev pub Path : {K : Type 0} → Noted K → K → List ℕ → K → Type 0
Path Next v [] w = v ≡ w
Path {K} Next v (t ∷ ts) w = (r : ℕ) × (x : K) × Next v (t, r) x × Path Next x ts w

-- Each node is at rest, and each step that a thread can take there leads to a node, as it was noted. Nodes may stand at places: then only
-- the steps of threads that may move from the node's place to another have to lead to a node there.
pub record IsClosed {T I K : Type 0} (m : Machine T) (answers : AnswersCall T) (Alike : State T → State T → Type 0)
    (Moves : I → ℕ → I → Type 0) (state_of : K → State T) (Node : I → K → Type 0) (Next : Noted K) : Type 0 where
  pub at_rest : (i : I) (v : K) → Node i v → IsAtRest m (state_of v)
  pub followed : (i j : I) (v : K) → Node i v → (e : Step) → Moves i e.0 j → Can m (state_of v) e
      → (w : K) × Node j w × Next v e w × LeadsToNode m answers Alike (state_of v) e (state_of w)

-- steps of these threads, in this order, move from one place to another
abbrev pub Chain : {I : Type 0} → (I → ℕ → I → Type 0) → I → List ℕ → I → Type 0
Chain Moves i [] j = i ≡ j
Chain {I} Moves i (t ∷ ts) j = (x : I) × Moves i t x × Chain Moves x ts j

-- A run leads to a node at the place j: it can go on, by steps that no other can refuse, up to what is alike to that node, and what was noted
-- leads there from v by the run's own order of entries.
pub record Arrives {T I K : Type 0} (m : Machine T) (answers : AnswersCall T) (Alike : State T → State T → Type 0) (state_of : K → State T)
    (Node : I → K → Type 0) (Next : Noted K) (s : State T) (v : K) (run : List Step) (j : I) : Type 0 where
  pub left : List Step
  pub goes : GoesAhead m answers (end m s run) left
  pub node : K
  pub is : Node j node
  pub alike : Alike (end m (end m s run) left) (state_of node)
  pub path : Path Next v (entering m s run) node
