-- What holds of all runs of a guest, and of traces and the runs that follow them.
use Rattle.std.specs.Prelude.{◌≡◌, ◌↔◌, ◌≤◌, ℕ, List, [], ◌∷◌, ◌++◌, length}
use Rattle.ir_image.specs.Guest.{Guest}
use Rattle.ir_image.specs.Bounds.{IsGuest}
use Rattle.ir_runs.specs.Machine.{Trace}
use Rattle.ir_flat.specs.Flat.{start_flat, tables, machine}
use Rattle.ir_runs.specs.Run.{Step, IsRun, asked, end, trail, Cut, IsCut, Consistent, IsWhole}
use Rattle.ir_runs.specs.Bounds.{IsComplete, trace}
use Rattle.ir_runs.specs.Alike.{SameTrace, SameRun, Reaches}
use Rattle.ir_runs.specs.Admitted.{AtCut}
use Rattle.ir_runs.specs.declared.thread_verdict.ThreadVerdict.{ThreadVerdict}
use Rattle.ir_runs.specs.declared.thread_verdict.ThreadVerdict.TheVariants.{Same}
use Rattle.ir_runs.specs.Verdicts.{IsVerdict, Follows, IsMaximal, closing, left_log}
use Rattle.ir_runs.specs.Coherent.{IsCoherent}
use Rattle.ir_runs.specs.Events.{HoldsEvents, result_of}
use Rattle.ir_thread.specs.State.{IsAllowed, most_budget}
use Rattle.ir_trace.specs.Recorded.{Recorded}
use Rattle.ir_trace.specs.Bounds.{IsRecorded}
use Rattle.ir_fit.specs.Fit.{IsRunOf}
use Rattle.ir_thread.specs.declared.profile.Profile.{Profile}

-- runs with one trace have the same threads, consistent cuts and objects
abbrev pub TraceDetermines : Type 0
TraceDetermines = (guest : Guest) (budget : ℕ) (profile : Profile) (run run' : List Step) → let f = start_flat guest budget profile in IsRun (machine f) (tables f) run
    → IsRun (machine f) (tables f) run'
    → SameTrace (machine f) (tables f) run run' → SameRun (machine f) (tables f) run run'

-- so have complete runs of a guest with one recorded trace
abbrev pub RecordedDetermines : Type 0
RecordedDetermines = (guest : Guest) (recorded : Recorded) (run run' : List Step) → IsRunOf guest recorded run → IsRunOf guest recorded run'
    → let f = start_flat guest recorded.budget recorded.profile in SameRun (machine f) (tables f) run run'

-- at a consistent cut of a run, the steps in it are a run
abbrev pub CutsAreRuns : Type 0
CutsAreRuns = (guest : Guest) (budget : ℕ) (profile : Profile) (run : List Step) → let f = start_flat guest budget profile in IsRun (machine f) (tables f) run
    → (p : Cut) → IsCut (machine f) (tables f) run p → Consistent (machine f) (tables f) run p → AtCut (machine f) (tables f) run p

-- the trace of each run is coherent
abbrev pub OwnTraceCoherent : Type 0
OwnTraceCoherent = (guest : Guest) (budget : ℕ) (profile : Profile) (run : List Step) → let f = start_flat guest budget profile in IsRun (machine f) (tables f) run
    → IsCoherent (length guest.entries) (trace (machine f) (tables f) run)

-- a complete run follows its own trace, no thread has a further step, and what follows that trace as far as any run can is that run, up to
-- the order of the steps
abbrev pub CompleteFits : Type 0
CompleteFits = (guest : Guest) (budget : ℕ) (profile : Profile) (run : List Step) → let f = start_flat guest budget profile in let tr =
    trace (machine f) (tables f) run in IsComplete (machine f) (tables f) run
    → Follows (closing (machine f) tr) (machine f) (tables f) tr run × IsMaximal (closing (machine f) tr) (machine f) (tables f) tr run
    × ((follower : List Step) → Follows (closing (machine f) tr) (machine f) (tables f) tr follower
    → IsMaximal (closing (machine f) tr) (machine f) (tables f) tr follower → Reaches (machine f) (tables f) follower run)

-- the trace of each complete run can be recorded: of a guest that the profile allows, under a budget that a trace may name, there is a
-- recorded trace within all limits that has this run
abbrev pub EachRunIsRecorded : Type 0
EachRunIsRecorded = (guest : Guest) (budget : ℕ) (profile : Profile) (run : List Step) → IsGuest guest → IsAllowed profile guest
    → budget ≤ most_budget
    → let f = start_flat guest budget profile in IsComplete (machine f) (tables f) run
    → (recorded : Recorded) × IsRecorded recorded × (recorded.budget ≡ budget) × (recorded.profile ≡ profile) × IsRunOf guest recorded run

-- each trace has a run that follows it as far as any can
abbrev pub MaximalExists : Type 0
MaximalExists = (guest : Guest) (budget : ℕ) (profile : Profile) (tr : Trace) → let f = start_flat guest budget profile in
    (run : List Step) × Follows (closing (machine f) tr) (machine f) (tables f) tr run
    × IsMaximal (closing (machine f) tr) (machine f) (tables f) tr run

-- where such a run stops that follows a coherent trace, each thread has one verdict, and it is that of each other such run
abbrev pub OneVerdict : Type 0
OneVerdict = (guest : Guest) (budget : ℕ) (profile : Profile) (tr : Trace) → let f = start_flat guest budget profile in IsCoherent (length guest.entries) tr
    → HoldsEvents (machine f) tr
    → (run : List Step) → Follows (closing (machine f) tr) (machine f) (tables f) tr run
    → IsMaximal (closing (machine f) tr) (machine f) (tables f) tr run
    → ((t : ℕ) → (v : ThreadVerdict) × IsVerdict (machine f) (tables f) tr run t v
    × ((w : ThreadVerdict) → IsVerdict (machine f) (tables f) tr run t w → w ≡ v))
    × ((run' : List Step) → Follows (closing (machine f) tr) (machine f) (tables f) tr run'
    → IsMaximal (closing (machine f) tr) (machine f) (tables f) tr run' → (t : ℕ) (v : ThreadVerdict)
    → IsVerdict (machine f) (tables f) tr run t v → IsVerdict (machine f) (tables f) tr run' t v)

-- all threads are the same exactly where there is a complete run with this trace
abbrev pub FitsExactly : Type 0
FitsExactly = (guest : Guest) (budget : ℕ) (profile : Profile) (tr : Trace) → let f = start_flat guest budget profile in IsCoherent (length guest.entries) tr
    → (run : List Step) → Follows (closing (machine f) tr) (machine f) (tables f) tr run
    → IsMaximal (closing (machine f) tr) (machine f) (tables f) tr run
    → ((t : ℕ) → IsVerdict (machine f) (tables f) tr run t Same) ↔
    ((whole : List Step) × IsWhole (machine f) (tables f) (length guest.entries) tr whole)

-- to see that a run follows as far as any can, one step of each thread is tried
abbrev pub OneStepEach : Type 0
OneStepEach = (guest : Guest) (budget : ℕ) (profile : Profile) (tr : Trace) (run : List Step) → let f = start_flat guest budget profile in
    ((t : ℕ) → Follows (closing (machine f) tr) (machine f) (tables f) tr
    (run ++ (
      t,
      result_of (asked (machine f) (end (machine f) (tables f) run) t)
          (left_log (trail (machine f) (tables f) run t) (tr.logs t)),
    ) ∷ []) → ⊥)
    → IsMaximal (closing (machine f) tr) (machine f) (tables f) tr run
