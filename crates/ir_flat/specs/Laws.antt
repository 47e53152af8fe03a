-- What holds in each state that a run reaches.
use Rattle.std.specs.Prelude.{◌≡◌, ◌≢◌, ℕ, ◌<◌, ◌≤◌, List, length, Some, None}
use Rattle.ir_image.specs.Guest.{Guest, most_threads}
use Rattle.ir_runs.specs.Machine.{Done, Object}
use Rattle.ir_runs.specs.declared.access.Access.TheVariants.{Writing}
use Rattle.ir_thread.specs.declared.profile.Profile.{Profile}
use Rattle.ir_object.specs.Cell.{readers}
use Rattle.ir_object.specs.Word.{version_unit, left_limit, inside_limit}
use Rattle.ir_flat.specs.Flat.{start_flat, tables, machine}
use Rattle.ir_runs.specs.Run.{Step, IsRun, end, asked, Can}

-- in each state that a run reaches and in which a thread isn't done, some thread has a step with result 0
abbrev pub NothingStuck : Type 0
NothingStuck = (guest : Guest) (budget : ℕ) (profile : Profile) (steps : List Step) → let f = start_flat guest budget profile in IsRun (machine f) (tables f) steps
    → (t : ℕ) → asked (machine f) (end (machine f) (tables f) steps) t ≢ Done → (u : ℕ)
    × Can (machine f) (end (machine f) (tables f) steps) (u, 0)

-- an object has a writer or readers, never both, and one writer at most
abbrev pub WritersAlone : Type 0
WritersAlone = (guest : Guest) (budget : ℕ) (profile : Profile) (steps : List Step) → let f = start_flat guest budget profile in IsRun (machine f) (tables f) steps
    → (o t u : ℕ) → t ≢ u → let b = (end (machine f) (tables f) steps).objects o in b.inside t ≡ Some Writing → b.inside u ≡ None

-- who is inside an object holds it, and who holds it is inside
abbrev pub HeldInside : Type 0
HeldInside = (guest : Guest) (budget : ℕ) (profile : Profile) (steps : List Step) → let f = start_flat guest budget profile in IsRun (machine f) (tables f) steps
    → (o t : ℕ) → let s = end (machine f) (tables f) steps in (s.objects o).inside t ≡ (machine f).held (s.now t) o

-- versions, and counts of readers that have left or are inside, fit the fields of a word
pub record FitsGuest (n : ℕ) (b : Object) : Type 0 where
  pub version : b.version < version_unit
  pub left : b.left < left_limit
  pub inside : readers n b.inside < inside_limit

-- what any run has counted fits
abbrev pub CountsFit : Type 0
CountsFit = (guest : Guest) (budget : ℕ) (profile : Profile) (steps : List Step) → let f = start_flat guest budget profile in length guest.entries ≤ most_threads
    → IsRun (machine f) (tables f) steps
    → (o : ℕ) → FitsGuest (length guest.entries) ((end (machine f) (tables f) steps).objects o)
