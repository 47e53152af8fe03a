-- What is recorded by an order is of the run by that order.
use Rattle.std.specs.Prelude.{◌≡◌, ℕ, List, length, Some, Ok, true}
use Rattle.ir_image.specs.Guest.{Guest, guest_at}
use Rattle.ir_runs.specs.Run.{Step}
use Rattle.ir_thread.specs.declared.profile.Profile.{Profile}
use Rattle.ir_trace.specs.Recorded.{Recorded}
use Rattle.ir_record.specs.Recording.{IsTraceOf, AreOutputs}
use Rattle.ir_record.specs.Refusing.{Turn}
use Rattle.ir_record_command.specs.Order.{order_of}
use Rattle.ir_record_command.specs.Plan.{Plan}
use Rattle.ir_record_command.specs.Recording.{IsRecordedOf}
use Rattle.ir_world.specs.Sources.{origin_of}
use Rattle.ir_order.specs.OneRun.{IsAnsweredByOrder, IsAnsweredByTurns}

-- a run of a guest by an order, whose threads were answered by the plan's random words, its bytes and a count
abbrev pub IsPlanned : Guest → Plan → List ℕ → List Step → Type 0
IsPlanned guest plan order run = IsAnsweredByOrder guest plan.budget plan.profile order (origin_of true plan.random plan.input) run

-- the same of a run by turns, in which tries may be refused
abbrev pub IsPlannedInTurns : Guest → Plan → List Turn → List Step → Type 0
IsPlannedInTurns guest plan turns run = IsAnsweredByTurns guest plan.budget plan.profile turns (origin_of true plan.random plan.input) run

-- the trace and the outputs are of this run
pub record IsOfRun (guest : Guest) (budget : ℕ) (profile : Profile) (run : List Step) (trace : Recorded) (outputs : List (List ℕ)) : Type 0 where
  pub trace_of : IsTraceOf guest budget profile run trace
  pub printed : AreOutputs guest budget profile run outputs

-- what is recorded of an image with a list is of each run that its guest makes by the list's turns
abbrev pub RecordingsAreOfTheRun : Type 0
RecordingsAreOfTheRun = (image : List ℕ) (guest : Guest) (plan : Plan) (list : List ℕ) (turns : List Turn) (run : List Step) (trace : Recorded)
    (outputs : List (List ℕ))
    → guest_at image ≡ Ok guest → plan.order ≡ Some list → order_of (length guest.entries) list ≡ Some turns
    → IsPlannedInTurns guest plan turns run → IsRecordedOf image plan trace outputs
    → IsOfRun guest plan.budget plan.profile run trace outputs

-- what is recorded of an image with a list is always the same
abbrev pub OneRecordingByAList : Type 0
OneRecordingByAList = (image : List ℕ) (plan : Plan) (list : List ℕ) (a b : Recorded) (x y : List (List ℕ)) → plan.order ≡ Some list
    → IsRecordedOf image plan a x → IsRecordedOf image plan b y → (a ≡ b) × (x ≡ y)
