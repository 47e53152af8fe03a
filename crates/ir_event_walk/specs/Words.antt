-- The words of the objects of a recorded run.
use Rattle.std.specs.Prelude.{◌≡◌, ℕ, List, slice_index}
use Rattle.ir_runs.specs.Run.{Cut, IsCut, Consistent, object_at}
use Rattle.ir_fit.specs.Fit.{FittedTrace}
use Rattle.ir_cut.specs.Positions.{EachRun, machine_of, start_of}

-- the words of object o at each consistent cut of the run that has thread t at position k
abbrev pub AreWordsAt : FittedTrace → ℕ → ℕ → ℕ → List ℕ → Type 0
AreWordsAt f t k o words = EachRun f (λ run. (p : Cut) → IsCut (machine_of f) (start_of f) run p
    → Consistent (machine_of f) (start_of f) run p → p t ≡ k
    → (object_at (machine_of f) (start_of f) run p o).words ≡ slice_index words)
