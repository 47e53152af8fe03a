-- Steps that are admitted at a cut.
use Rattle.std.specs.Prelude.{◌≡◌, ℕ, suc, ◌<◌, cond, eqb, List}
use Rattle.ir_runs.specs.Machine.{Machine}
use Rattle.ir_runs.specs.Run.{State, Step, Can, after, label, IsRun, end, count, th, Emits, Cut, Consistent, part}

-- p, and one more step of thread t
abbrev pub further : Cut → ℕ → Cut
further p t u = cond (eqb u t) (suc (p u)) (p u)

-- thread t has a step left, and what that step needs is in the cut
abbrev pub Admitted : {T : Type 0} → Machine T → State T → List Step → Cut → ℕ → Type 0
Admitted m s run p t = (p t < count m s run t) × Consistent m s run (further p t)

-- the part of the run in a consistent cut is a run, at whose end each thread is as it was at its position, and a step of a thread that is
-- admitted leads to the cut one further
pub record AtCut {T : Type 0} (m : Machine T) (s : State T) (run : List Step) (p : Cut) : Type 0 where
  pub runs : IsRun m s (part run p)
  pub threads : (t : ℕ) → (end m s (part run p)).now t ≡ th m s run t (p t)
  pub steps : (t : ℕ) → Admitted m s run p t → (r : ℕ) × Can m (end m s (part run p)) (t, r)
      × (after m (end m s (part run p)) (t, r) ≡ end m s (part run (further p t)))
      × Emits m s run t (p t) (label m (end m s (part run p)) (t, r))
