-- Whether a stale write of a run rests on what was read.
use Rattle.std.specs.Prelude.{◌≡◌, ℕ, Bool, not, List, Option, Some, None, true, if◌then◌else◌, ⊤}
use Rattle.ir_image.specs.Guest.{Guest}
use Rattle.ir_runs.specs.Run.{Step}
use Rattle.ir_trace.specs.Recorded.{Recorded}
use Rattle.ir_fit.specs.Fit.{FittedTrace, HasRun}
use Rattle.ir_record_command.specs.Plan.{Plan}
use Rattle.ir_order.specs.Recording.{IsPlanned, IsOfRun}
use Rattle.ir_stale_run.specs.Stale.{HasRests}

-- whether one does, by the guest and the run's trace
pub record HasStale (guest : Guest) (plan : Plan) (run : List Step) (has : Bool) : Type 0 where
  pub trace : Recorded
  pub outputs : List (List ℕ)
  pub of_run : IsOfRun guest plan.budget plan.profile run trace outputs
  pub fitted : FittedTrace
  pub of_guest : fitted.guest ≡ guest
  pub of_trace : fitted.recorded ≡ trace
  pub fits : HasRun fitted
  pub rests : HasRests fitted has

-- a run has what is wanted of it: one that does, or none; or nothing is wanted
abbrev pub FulfilsStale : Guest → Plan → Option Bool → List Step → Type 0
FulfilsStale guest plan None run = ⊤
FulfilsStale guest plan (Some has) run = HasStale guest plan run has

-- a run hasn't what is wanted of it: none does, though one is wanted, or one does, though none is; something is wanted
abbrev pub FailsStale : Guest → Plan → Option Bool → List Step → Type 0
FailsStale guest plan None run = ⊥
FailsStale guest plan (Some has) run = HasStale guest plan run (not has)

-- this is the trace of each run of the guest by this order
abbrev pub IsTraceBy : Guest → Plan → List ℕ → Recorded → Type 0
IsTraceBy guest plan order trace = (run : List Step) → IsPlanned guest plan order run
    → (outputs : List (List ℕ)) × IsOfRun guest plan.budget plan.profile run trace outputs

-- whether one does in each run of the guest by this order
abbrev pub HasStaleBy : Guest → Plan → List ℕ → Bool → Type 0
HasStaleBy guest plan order has = (run : List Step) → IsPlanned guest plan order run → HasStale guest plan run has

-- whether each run by this order has what is wanted of it, or none has
abbrev pub IsWanted : Guest → Plan → List ℕ → Option Bool → Bool → Type 0
IsWanted guest plan order None is = is ≡ true
IsWanted guest plan order (Some wanted) is = HasStaleBy guest plan order (if is then wanted else not wanted)
