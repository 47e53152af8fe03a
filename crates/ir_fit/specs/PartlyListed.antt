-- Visits of a run of which some are listed.
use Rattle.std.specs.Prelude.{◌≡◌, ◌-◌, ℕ, List, length, take, drop}
use Rattle.std.specs.List.{slice_index_or}
use Rattle.std.specs.List.Sorted.{IsPermutation}
use Rattle.ir_runs.specs.declared.access.Access.{Access}
use Rattle.ir_trace.specs.Recorded.{recorded_thread}
use Rattle.ir_fit.specs.Placed.{Visit, Listing, placed_at, of_threads, entered_by, all_entered, all_events_left, picked, listed_events}
use Rattle.ir_fit.specs.Listed.{left_by_event}
use Rattle.ir_fit.specs.declared.visit_kind.VisitKind.{VisitKind}
use Rattle.ir_fit.specs.declared.visit_kind.VisitKind.TheVariants.{Entries, Leaves}
use Rattle.ir_fit.specs.declared.run_visits.RunVisits.{RunVisits}

-- the first for entries, the second for leaves
abbrev pub by_kind : {X : Type 0} → VisitKind → X → X → X
by_kind Entries x y = x
by_kind Leaves x y = y

-- how many events thread t has, or how many leaves
abbrev pub count_of : RunVisits → ℕ → ℕ
count_of run t = by_kind run.kind (length (recorded_thread run.trace.now t).events) (length (placed_at run.places.now t).leaves)

-- the visits of the first k events of thread t, or of its first k leaves
abbrev pub first_visits : RunVisits → ℕ → ℕ → List Visit
first_visits run t k = by_kind run.kind (entered_by t (take k (recorded_thread run.trace.now t).events) (placed_at run.places.now t).entries)
    (left_by_event t (take k (placed_at run.places.now t).leaves))

-- the visits of thread t's events, or leaves, from number i on and before number j
abbrev pub visits_between : RunVisits → ℕ → ℕ → ℕ → List Visit
visits_between run t i j = by_kind run.kind
    (entered_by t (take (j - i) (drop i (recorded_thread run.trace.now t).events)) (drop i (placed_at run.places.now t).entries))
    (left_by_event t (take (j - i) (drop i (placed_at run.places.now t).leaves)))

-- all entries, or all leaves
abbrev pub all_visits : RunVisits → List Visit
all_visits run = by_kind run.kind (all_entered run.trace.now run.places.now) (all_events_left run.places.now)

-- of each thread the visits of its first so many events, or leaves, are listed, and no others
pub record AreListed (run : RunVisits) (counts : List ℕ) (x : Listing) : Type 0 where
  pub each : length counts ≡ length run.places.now
  pub same : (o : ℕ) (a : Access)
      → IsPermutation (picked o a (of_threads (length run.places.now) (λ t. first_visits run t (slice_index_or counts t 0)))) (listed_events x o a)
