-- The threads of a run, each of them alone.
use Rattle.std.specs.Prelude.{◌≡◌, ℕ, ◌<◌, ◌&&◌, eqb, List, [], ◌∷◌, length}
use Rattle.ir_image.specs.Guest.{Guest}
use Rattle.ir_thread.specs.State.{start_state}
use Rattle.ir_thread.specs.declared.profile.Profile.{Profile}
use Rattle.ir_runs.specs.Machine.{Machine, target, reply, Label}
use Rattle.ir_runs.specs.Shared.{is_shared}
use Rattle.ir_runs.specs.Run.{State, Step, act, after, label, IsRun, end, join_if, trail}
use Rattle.ir_flat.specs.Flat.{start_flat, tables, machine, MayRun, alone_after}
use Rattle.ir_flat.specs.Trails.{alone_trail}

-- what a run replies to thread t, step by step
abbrev pub replied : {T : Type 0} → Machine T → State T → List Step → ℕ → List ℕ
replied m s [] t = []
replied m s (e ∷ run) t = join_if (eqb t e.0) (reply (act m s e) (s.objects (target (act m s e)))) (replied m (after m s e) run t)

-- what the object steps of thread t emit in a run
abbrev pub shared_labels : {T : Type 0} → Machine T → State T → List Step → ℕ → List Label
shared_labels m s [] t = []
shared_labels m s (e ∷ run) t = join_if (eqb t e.0 && is_shared (act m s e)) (label m s e) (shared_labels m (after m s e) run t)

-- a thread that starts as x, alone, takes these steps with these replies, and is y after them; labels are what its object steps emit
pub record StepsAlone {T : Type 0} (m : Machine T) (x y : T) (replies : List ℕ) (labels : List Label) (steps : List (T × Label)) : Type 0 where
  pub may : MayRun m x replies
  pub trail : steps ≡ alone_trail m x replies labels
  pub ends : y ≡ alone_after m x replies

-- in each run each thread of a guest takes the steps that it takes alone, with what the run replies to it
abbrev pub EachAlone : Type 0
EachAlone = (guest : Guest) (budget : ℕ) (profile : Profile) (run : List Step) (t : ℕ) → let f = start_flat guest budget profile in
    IsRun (machine f) (tables f) run → t < length guest.entries
    → StepsAlone (machine f) (start_state guest t budget profile) ((end (machine f) (tables f) run).now t)
    (replied (machine f) (tables f) run t) (shared_labels (machine f) (tables f) run t) (trail (machine f) (tables f) run t)
