-- Runs that count: each call of the environment is answered as its thread's own history says. What a thread does between its entries.
use Rattle.std.specs.Prelude.{◌≡◌, ℕ, ◌+◌, Bool, true, false, cond, List, [], ◌∷◌, ◌++◌, length}
use Rattle.ir_runs.specs.Machine.{Ask, Private, Env, Enter, Try, Leave, Get, Put, Done, Machine}
use Rattle.ir_runs.specs.Run.{State, Step, asked, Can, after, end, trail}

-- what each thread is answered where it stands at a call of the environment
abbrev pub AnswersCall : Type 0 → Type 0
AnswersCall T = ℕ → T → ℕ

-- a step that asks so has this result, if it calls the environment
abbrev pub IsAnswered : Ask → ℕ → ℕ → Type 0
IsAnswered (Env k) answer r = r ≡ answer
IsAnswered _ answer r = Unit {0}

-- there is such a step, and it counts
abbrev pub Takes : {T : Type 0} → Machine T → AnswersCall T → State T → Step → Type 0
Takes m answers s e = Can m s e × IsAnswered (asked m s e.0) (answers e.0 (s.now e.0)) e.1

-- a run that counts
abbrev pub RunCounts : {T : Type 0} → Machine T → AnswersCall T → State T → List Step → Type 0
RunCounts m answers s [] = Unit {0}
RunCounts m answers s (e ∷ run) = Takes m answers s e × RunCounts m answers (after m s e) run

-- what a thread asks that no other can refuse it, nor see: all but an entry, a try and the end
abbrev pub is_own : Ask → Bool
is_own Private = true
is_own (Env k) = true
is_own (Enter o a) = false
is_own (Try o) = false
is_own (Leave o a) = true
is_own (Get o i) = true
is_own (Put o i w) = true
is_own Done = false

-- each thread stands at an entry or a try, or is done
abbrev pub IsAtRest : {T : Type 0} → Machine T → State T → Type 0
IsAtRest m s = (t : ℕ) → is_own (asked m s t) ≡ false

-- a run that counts, of such steps alone
abbrev pub GoesAhead : {T : Type 0} → Machine T → AnswersCall T → State T → List Step → Type 0
GoesAhead m answers s [] = Unit {0}
GoesAhead m answers s (e ∷ run) = (is_own (asked m s e.0) ≡ true) × Takes m answers s e × GoesAhead m answers (after m s e) run

-- the threads of the run's entries and refused tries, in its order
abbrev pub entering : {T : Type 0} → Machine T → State T → List Step → List ℕ
entering m s [] = []
entering m s (e ∷ run) = cond (is_own (asked m s e.0)) (entering m (after m s e) run) (e.0 ∷ entering m (after m s e) run)

-- The run with the steps `ahead` first. What it hasn't of them comes after its end, so of a complete run nothing does.
pub record Brought {T : Type 0} (m : Machine T) (answers : AnswersCall T) (s : State T) (ahead run : List Step) : Type 0 where
  -- what is left of `ahead` at the run's end
  pub left : List Step
  pub goes : GoesAhead m answers (end m s run) left
  -- the rest of the run, once `ahead` came first
  pub rest : List Step
  pub counts : RunCounts m answers (end m s ahead) rest
  pub same_end : end m (end m s ahead) rest ≡ end m (end m s run) left
  pub same_entering : entering m (end m s ahead) rest ≡ entering m s run
  pub same_trail : (u : ℕ) → trail m s (ahead ++ rest) u ≡ trail m s (run ++ left) u
  pub same_length : length ahead + length rest ≡ length run + length left
