-- What holds of the consistent cuts of all runs of a guest.
use Rattle.std.specs.Prelude.{◌≡◌, ℕ, min, max, ◌<◌, ◌≤◌, List, []}
use Rattle.ir_image.specs.Guest.{Guest}
use Rattle.ir_runs.specs.Machine.{Label, logged}
use Rattle.ir_flat.specs.Flat.{start_flat, tables, machine}
use Rattle.ir_runs.specs.Run.{Step, Can, label, IsRun, end, count, Emits, Cut, IsCut, Consistent, part, IsLeast, IsGreatest}
use Rattle.ir_runs.specs.Admitted.{Admitted}
use Rattle.ir_thread.specs.declared.profile.Profile.{Profile}

-- a thread that is admitted stays so at every later consistent cut in which it has gone no further
abbrev pub Persistence : Type 0
Persistence = (guest : Guest) (budget : ℕ) (profile : Profile) (run : List Step) (p q : Cut) (t : ℕ) → let f = start_flat guest budget profile in
    Admitted (machine f) (tables f) run p t
    → Consistent (machine f) (tables f) run q → ((u : ℕ) → p u ≤ q u) → q t ≡ p t → Admitted (machine f) (tables f) run q t

-- at a consistent cut below a consistent target some thread below its target is admitted
abbrev pub Progresses : Type 0
Progresses = (guest : Guest) (budget : ℕ) (profile : Profile) (run : List Step) → let f = start_flat guest budget profile in IsRun (machine f) (tables f) run
    → (p q : Cut) → Consistent (machine f) (tables f) run p → Consistent (machine f) (tables f) run q → IsCut (machine f) (tables f) run q
    → ((t : ℕ) → p t ≤ q t) → (t : ℕ) → p t < q t
    → (u : ℕ) × (p u < q u) × Admitted (machine f) (tables f) run p u

-- of two consistent cuts, the larger positions and the smaller positions are consistent cuts
abbrev pub Lattice : Type 0
Lattice = (guest : Guest) (budget : ℕ) (profile : Profile) (run : List Step) (p q : Cut) → let f = start_flat guest budget profile in
    Consistent (machine f) (tables f) run p → Consistent (machine f) (tables f) run q
    → Consistent (machine f) (tables f) run (λ t. max (p t) (q t)) × Consistent (machine f) (tables f) run (λ t. min (p t) (q t))

-- there is a least consistent cut at or above p with t at k or more
abbrev pub LeastExists : Type 0
LeastExists = (guest : Guest) (budget : ℕ) (profile : Profile) (run : List Step) → let f = start_flat guest budget profile in IsRun (machine f) (tables f) run
    → (p : Cut) (t k : ℕ) → IsCut (machine f) (tables f) run p → k ≤ count (machine f) (tables f) run t → (q : Cut)
    × IsLeast (machine f) (tables f) run p t k q

-- there is a greatest consistent cut at or below p with t at k or less
abbrev pub GreatestExists : Type 0
GreatestExists = (guest : Guest) (budget : ℕ) (profile : Profile) (run : List Step) → let f = start_flat guest budget profile in IsRun (machine f) (tables f) run
    → (p : Cut) (t k : ℕ) → IsCut (machine f) (tables f) run p → (q : Cut) × IsGreatest (machine f) (tables f) run p t k q

-- the least cut has t exactly at k, where k isn't below its position
abbrev pub LeastExact : Type 0
LeastExact = (guest : Guest) (budget : ℕ) (profile : Profile) (run : List Step) → let f = start_flat guest budget profile in IsRun (machine f) (tables f) run
    → (p q : Cut) (t k : ℕ) → IsCut (machine f) (tables f) run p → Consistent (machine f) (tables f) run p → p t ≤ k
    → k ≤ count (machine f) (tables f) run t → IsLeast (machine f) (tables f) run p t k q → q t ≡ k

-- the greatest cut has t exactly at k, where k isn't above its position
abbrev pub GreatestExact : Type 0
GreatestExact = (guest : Guest) (budget : ℕ) (profile : Profile) (run : List Step) → let f = start_flat guest budget profile in IsRun (machine f) (tables f) run
    → (p q : Cut) (t k : ℕ) → IsCut (machine f) (tables f) run p → Consistent (machine f) (tables f) run p → k ≤ p t
    → IsGreatest (machine f) (tables f) run p t k q → q t ≡ k

-- a thread whose next step can be taken at the cut, and logs what it logs in the run, is admitted there
abbrev pub FollowersAdmitted : Type 0
FollowersAdmitted = (guest : Guest) (budget : ℕ) (profile : Profile) (run : List Step) → let f = start_flat guest budget profile in IsRun (machine f) (tables f) run
    → (p : Cut) → IsCut (machine f) (tables f) run p → Consistent (machine f) (tables f) run p
    → (t r : ℕ) (k : Label) → Can (machine f) (end (machine f) (tables f) (part run p)) (t, r) → Emits (machine f) (tables f) run t (p t) k
    → logged k [] ≡ logged (label (machine f) (end (machine f) (tables f) (part run p)) (t, r)) [] → Admitted (machine f) (tables f) run p t
