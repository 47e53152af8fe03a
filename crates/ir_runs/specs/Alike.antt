-- Runs that are the same up to the order of their steps.
use Rattle.std.specs.Prelude.{◌≡◌, ◌↔◌, ℕ, List}
use Rattle.ir_runs.specs.Machine.{Machine}
use Rattle.ir_runs.specs.Run.{State, Step, end, trail, log, count, th, Cut, Consistent, object_at}

-- the same number of steps and the same log of each thread
abbrev pub SameTrace : {T : Type 0} → Machine T → State T → List Step → List Step → Type 0
SameTrace m s run run' = (t : ℕ) → (log m s run t ≡ log m s run' t) × (count m s run t ≡ count m s run' t)

-- as many steps of each thread, the same threads at each position, the same consistent cuts, and at these the same objects
pub record SameRun {T : Type 0} (m : Machine T) (s : State T) (run run' : List Step) : Type 0 where
  pub counts : (t : ℕ) → count m s run t ≡ count m s run' t
  pub threads : (t k : ℕ) → th m s run t k ≡ th m s run' t k
  pub cuts : (p : Cut) → Consistent m s run p ↔ Consistent m s run' p
  pub objects : (p : Cut) → Consistent m s run p → (o : ℕ) → object_at m s run p o ≡ object_at m s run' p o

-- the same steps of each thread, and the same end
pub record Reaches {T : Type 0} (m : Machine T) (s : State T) (run run' : List Step) : Type 0 where
  pub trails : (t : ℕ) → trail m s run t ≡ trail m s run' t
  pub states : end m s run ≡ end m s run'
