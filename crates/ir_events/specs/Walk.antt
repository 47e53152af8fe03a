-- A walk over a run that lists the pcs of its events.
use Rattle.std.specs.Prelude.{◌≡◌, ◌≢◌, ◌<◌, ◌≤◌, ℕ, List, [], length, slice_index}
use Rattle.std.specs.List.{slice_index_or}
use Rattle.ir_trace.specs.Recorded.{recorded_thread}
use Rattle.ir_fit.specs.Fit.{FittedTrace, HasRun}
use Rattle.ir_cut.specs.Positions.{EachRun, cut_of}
use Rattle.ir_weave.specs.Standing.{Standing, StandsAtCut, flat_in, positions}
use Rattle.ir_weave.specs.Stepping.{IsSameSeat, RestsAtTarget}
use Rattle.ir_events.specs.Events.{entries_of, event_entry, pc_of}

-- there is a run with the trace, and these are the last positions of its threads
pub record AreEnds (f : FittedTrace) (ends : List ℕ) : Type 0 where
  pub run : HasRun f
  pub size : length ends ≡ length f.guest.entries
  pub steps : (t : ℕ) → t < length f.guest.entries → cut_of ends t ≡ (recorded_thread f.recorded t).steps

-- the guest at a consistent cut, at which no thread is past its end
pub record IsOnWalk (f : FittedTrace) (ends : List ℕ) (s : Standing) : Type 0 where
  pub stands : StandsAtCut f (positions (flat_in f s)) s
  pub below : (t : ℕ) → positions (flat_in f s) t ≤ cut_of ends t

-- thread t alone has gone on, if any has
pub record IsFurther (f : FittedTrace) (t : ℕ) (old new : Standing) : Type 0 where
  pub above : positions (flat_in f old) t ≤ positions (flat_in f new) t
  pub others : (u : ℕ) → u ≢ t → positions (flat_in f new) u ≡ positions (flat_in f old) u

-- the pcs of the first events of thread t; the others are at position k or later
pub record IsListedEvent (f : FittedTrace) (t k : ℕ) (pcs : List ℕ) : Type 0 where
  pub few : length pcs ≤ length (entries_of f t)
  pub each : (i : ℕ) → i < length pcs → EachRun f (λ run. slice_index pcs i ≡ pc_of f run t i)
  pub ahead : (i : ℕ) → length pcs ≤ i → i < length (entries_of f t) → k ≤ event_entry f t i

-- so for each thread, at its position
abbrev pub AreEventsListed : FittedTrace → Standing → List (List ℕ) → Type 0
AreEventsListed f s lists = (t : ℕ) → t < length lists → IsListedEvent f t (positions (flat_in f s) t) (slice_index_or lists t [])

-- the first n threads have gone on as far as each could by itself, one after the other: if none has gone on, none of them can
pub record IsWalkPass (f : FittedTrace) (ends : List ℕ) (n : ℕ) (old new : Standing) : Type 0 where
  pub way : IsOnWalk f ends new
  pub above : (t : ℕ) → positions (flat_in f old) t ≤ positions (flat_in f new) t
  pub rest : IsSameSeat (flat_in f old) (flat_in f new) → (t : ℕ) → t < n → RestsAtTarget f ends (flat_in f new) t
