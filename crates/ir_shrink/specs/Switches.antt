-- How often the threads of a run change places.
use Rattle.std.specs.Prelude.{ℕ, ◌+◌, ◌==◌, Bool, true, false, List, [], ◌∷◌, map, Option, Some, None}
use Rattle.ir_runs.specs.Run.{Step}

-- 1 for a step of another thread than the one before it
abbrev pub change : Bool → ℕ
change true = 0
change false = 1

-- the same, if there was one before it
abbrev pub change_from : Option ℕ → ℕ → ℕ
change_from None thread = 0
change_from (Some last) thread = change (last == thread)

-- how often these threads change, after a step of the last
abbrev pub changes_after : ℕ → List ℕ → ℕ
changes_after last [] = 0
changes_after last (t ∷ threads) = change (last == t) + changes_after t threads

-- how often a thread isn't the one before it
abbrev pub thread_changes : List ℕ → ℕ
thread_changes [] = 0
thread_changes (t ∷ threads) = changes_after t threads

-- how often the thread of a step of the run isn't the one that took the step before
abbrev pub switch_count : List Step → ℕ
switch_count run = thread_changes (map (λ e. e.0) run)
