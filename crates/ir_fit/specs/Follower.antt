-- A guest that follows a trace.
use Rattle.std.specs.Prelude.{◌≡◌, ◌<◌, ◌≤◌, ◌+◌, ℕ, List, length, slice_get, Some}
use Rattle.ir_image.specs.Guest.{Guest, object_count}
use Rattle.ir_thread.specs.Permitted.{held_count}
use Rattle.ir_flat.specs.Flat.{Flat, thread_of, tables, machine, start_flat}
use Rattle.ir_runs.specs.Run.{Step, end, trail, log, count}
use Rattle.ir_trace.specs.Recorded.{Recorded, recorded_thread, trace_of}
use Rattle.ir_fit.specs.Ahead.{steps_ahead, IsStoppedAhead}
use Rattle.ir_runs.specs.Verdicts.{sum_below, Follows, closing}
use Rattle.ir_fit.specs.Growing.{Growing, growing_at, places_of, leaves_of}
use Rattle.ir_runs.specs.Standing.{StandsAs}
use Rattle.ir_fit.specs.declared.follower.Follower.{Follower}
use Rattle.ir_runs.specs.declared.thread_verdict.ThreadVerdict.{ThreadVerdict}

-- the guest's threads and objects after a run that follows the trace
pub record IsFollower (guest : Guest) (r : Recorded) (f : Flat) (ps : List Growing) : Type 0 where
  pub run : List Step
  pub follows : Follows (closing (machine (start_flat guest r.budget r.profile)) (trace_of r)) (machine (start_flat guest r.budget r.profile))
      (tables (start_flat guest r.budget r.profile)) (trace_of r) run
  pub ends : tables f ≡ end (machine (start_flat guest r.budget r.profile)) (tables (start_flat guest r.budget r.profile)) run
  pub code : f.code ≡ guest.code
  pub threads : length f.threads ≡ length guest.entries
  pub objects : length f.objects ≡ object_count guest
  pub steps : (t : ℕ) → (thread_of f t).steps ≡ count (machine (start_flat guest r.budget r.profile)) (tables (start_flat guest r.budget r.profile)) run t
  pub events : (t : ℕ) → (thread_of f t).events ≡ length
      (log (machine (start_flat guest r.budget r.profile)) (tables (start_flat guest r.budget r.profile)) run t)
  pub placed : (t : ℕ) → t < length guest.entries
      → (growing_at ps t).entries ≡ places_of (trail (machine (start_flat guest r.budget r.profile)) (tables (start_flat guest r.budget r.profile)) run t)
  pub left : (t : ℕ) → t < length guest.entries
      → (growing_at ps t).leaves ≡ leaves_of (trail (machine (start_flat guest r.budget r.profile)) (tables (start_flat guest r.budget r.profile)) run t)

-- how many steps the trace leaves to all threads
abbrev pub all_ahead : Recorded → Flat → ℕ
all_ahead r f = sum_below (length f.threads) (steps_ahead r f)

-- g is f after steps that follow the trace, and what is kept of the threads' steps is kept of these too
pub record FollowerGoesOn (r : Recorded) (f : Flat) (ps : List Growing) (g : Flat) (qs : List Growing) : Type 0 where
  pub follows : (guest : Guest) → IsFollower guest r f ps → IsFollower guest r g qs
  pub threads : length g.threads ≡ length f.threads
  pub objects : length g.objects ≡ length f.objects
  pub fewer : all_ahead r g ≤ all_ahead r f

-- what is kept of each thread: as many positions as it has events, not more leaves than entries that it has left, and room for as many as
-- the trace has
pub record IsPlaced (r : Recorded) (f : Flat) (ps : List Growing) : Type 0 where
  pub each : length ps ≡ length f.threads
  pub rooms : (t : ℕ) → t < length f.threads → (growing_at ps t).room ≡ length (recorded_thread r t).events
  pub counts : (t : ℕ) → t < length f.threads → length (growing_at ps t).entries ≡ (thread_of f t).events
  pub fewer : (t : ℕ) → t < length f.threads → length (growing_at ps t).leaves + held_count (thread_of f t).held ≤ (thread_of f t).events
  pub within : (t : ℕ) → t < length f.threads → (thread_of f t).events ≤ length (recorded_thread r t).events

-- the trace is of as many threads as there are, and of each it is known whether it is ready
pub record IsSized (f : Follower) : Type 0 where
  pub emitted : length f.trace.threads ≡ length f.flat.threads
  pub known : length f.ready.items ≡ length f.flat.threads
  pub placed : IsPlaced f.trace f.flat f.places.items

-- the guest's threads and objects after a run that follows the trace as far as any can, with what is said of each thread
pub record IsFollowed (guest : Guest) (r : Recorded) (f : Flat) (ps : List Growing) : Type 0 where
  pub follower : IsFollower guest r f ps
  pub stopped : (t : ℕ) → t < length guest.entries → IsStoppedAhead r f t
  pub stands : (t : ℕ) → t < length guest.entries → (v : ThreadVerdict)
      × StandsAs (machine (start_flat guest r.budget r.profile)) (tables (start_flat guest r.budget r.profile)) (trace_of r) follower.run t v

-- these are the verdicts on the threads, in the order of their numbers
abbrev pub AreStanding : Recorded → Flat → List Growing → List ThreadVerdict → Type 0
AreStanding r f ps vs = (guest : Guest) (k : IsFollower guest r f ps) (t : ℕ) (v : ThreadVerdict) → slice_get vs t ≡ Some v
    → StandsAs (machine (start_flat guest r.budget r.profile)) (tables (start_flat guest r.budget r.profile)) (trace_of r) k.run t v
