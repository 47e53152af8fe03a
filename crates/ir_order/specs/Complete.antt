-- Runs after which all threads are done.
use Rattle.std.specs.Prelude.{◌≢◌, ◌≤◌, ℕ, List, [], length, map}
use Rattle.ir_image.specs.Guest.{Guest}
use Rattle.ir_runs.specs.Run.{Step, IsDone, end}
use Rattle.ir_thread.specs.declared.profile.Profile.{Profile}
use Rattle.ir_flat.specs.Flat.{start_flat, tables, machine}

-- such a run of a guest that has a thread has a step, so the threads of its steps are no empty order
abbrev pub CompleteRunsHaveSteps : Type 0
CompleteRunsHaveSteps = (guest : Guest) (budget : ℕ) (profile : Profile) (run : List Step) → 1 ≤ length guest.entries
    → IsDone (machine (start_flat guest budget profile)) (end (machine (start_flat guest budget profile)) (tables (start_flat guest budget profile)) run)
    → map (λ e. e.0) run ≢ []
