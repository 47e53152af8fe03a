-- Whether a stale write of a run by turns rests on what was read.
use Rattle.std.specs.Prelude.{◌≡◌, ℕ, Bool, not, List, Option, Some, None, true, if◌then◌else◌}
use Rattle.ir_image.specs.Guest.{Guest}
use Rattle.ir_hunt.specs.Stale.{HasStale}
use Rattle.ir_order.specs.Recording.{IsPlannedInTurns, IsOfRun}
use Rattle.ir_record.specs.Refusing.{Turn}
use Rattle.ir_record_command.specs.Plan.{Plan}
use Rattle.ir_runs.specs.Run.{Step}
use Rattle.ir_trace.specs.Recorded.{Recorded}

-- this is the trace of each run of the guest by these turns
abbrev pub IsTraceInTurns : Guest → Plan → List Turn → Recorded → Type 0
IsTraceInTurns guest plan turns trace = (run : List Step) → IsPlannedInTurns guest plan turns run
    → (outputs : List (List ℕ)) × IsOfRun guest plan.budget plan.profile run trace outputs

-- whether one does in each run of the guest by these turns
abbrev pub HasStaleInTurns : Guest → Plan → List Turn → Bool → Type 0
HasStaleInTurns guest plan turns has = (run : List Step) → IsPlannedInTurns guest plan turns run → HasStale guest plan run has

-- whether each run by these turns has what is wanted of it, or none has
abbrev pub IsWantedInTurns : Guest → Plan → List Turn → Option Bool → Bool → Type 0
IsWantedInTurns guest plan turns None is = is ≡ true
IsWantedInTurns guest plan turns (Some wanted) is = HasStaleInTurns guest plan turns (if is then wanted else not wanted)
