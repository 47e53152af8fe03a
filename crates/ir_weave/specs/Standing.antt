-- The threads and objects of a guest, without its code.
use Rattle.std.specs.Prelude.{List, ◌≡◌, ℕ, ◌<◌, ◌≤◌, length}
use Rattle.ir_thread.specs.State as thread
use Rattle.ir_object.specs.Cell.{Cell}
use Rattle.ir_flat.specs.Flat.{Flat, IsFlat, thread_of, tables}
use Rattle.ir_fit.specs.Fit.{FittedTrace}
use Rattle.ir_cut.specs.Positions.{cut_of, machine_of, start_of, EachRun}
use Rattle.ir_image.specs.Guest.{object_count}
use Rattle.ir_runs.specs.Run.{Step, th, Cut, IsCut, Consistent, object_at}

-- the threads and objects of a guest at one moment
pub record Standing : Type 0 where
  pub threads : List thread.ThreadState
  pub objects : List Cell

-- with the guest's code
abbrev pub flat_in : FittedTrace → Standing → Flat
flat_in f s = record { code = f.guest.code; threads = s.threads; objects = s.objects }

-- how many steps each thread has taken
abbrev pub positions : Flat → Cut
positions s t = (thread_of s t).steps

-- the cut p of the run is consistent, each thread t is as it was after p t of its steps, and each object as it is at the cut
pub record StandsAtPlace (f : FittedTrace) (p : Cut) (s : Flat) (run : List Step) : Type 0 where
  pub cut : IsCut (machine_of f) (start_of f) run p
  pub consistent : Consistent (machine_of f) (start_of f) run p
  pub threads : (t : ℕ) → thread_of s t ≡ th (machine_of f) (start_of f) run t (p t)
  pub objects : (o : ℕ) → (tables s).objects o ≡ object_at (machine_of f) (start_of f) run p o

-- the guest at the cut p of each complete run with the trace
pub record IsStateAt (f : FittedTrace) (p : Cut) (s : Flat) : Type 0 where
  pub code : s.code ≡ f.guest.code
  pub threads : length s.threads ≡ length f.guest.entries
  pub objects : length s.objects ≡ object_count f.guest
  pub steps : (t : ℕ) → positions s t ≡ p t
  pub each : EachRun f (StandsAtPlace f p s)

-- the guest at the cut p of each complete run with the trace, each object's word counting who is inside
pub record StandsAtCut (f : FittedTrace) (p : Cut) (s : Standing) : Type 0 where
  pub flat : IsFlat (flat_in f s)
  pub at : IsStateAt f p (flat_in f s)

-- the guest at a consistent cut between the old one and the target
pub record IsBetween (f : FittedTrace) (target : List ℕ) (old new : Standing) : Type 0 where
  pub stands : StandsAtCut f (positions (flat_in f new)) new
  pub above : (t : ℕ) → positions (flat_in f old) t ≤ positions (flat_in f new) t
  pub below : (t : ℕ) → positions (flat_in f new) t ≤ cut_of target t

-- at these positions at most one thread is below its target
abbrev pub OneIsBelow : List ℕ → Cut → Type 0
OneIsBelow target p = (t u : ℕ) → p t < cut_of target t → p u < cut_of target u → t ≡ u
