-- What holds of a recording and of what is said of its trace.
use Rattle.std.specs.Prelude.{◌≡◌, ℕ, List}
use Rattle.ir_image.specs.Guest.{Guest}
use Rattle.ir_thread.specs.declared.profile.Profile.{Profile}
use Rattle.ir_runs.specs.Run.{Step}
use Rattle.ir_trace.specs.Recorded.{Recorded}
use Rattle.ir_record.specs.Recordings.{IsRecordingOfSome, IsRecordingByTurns}
use Rattle.ir_record.specs.Refusing.{Turn}
use Rattle.ir_record.specs.Worlds.{AnsweredCall}
use Rattle.ir_fit.specs.Fit.{IsRunOf, IsRefused}
use Rattle.ir_fit.specs.declared.fit_err.FitErr.{FitErr}
use Rattle.ir_fit.specs.declared.fit_err.FitErr.TheVariants.{NoMem}

-- a complete run of the guest has the trace, under the budget and the profile that the trace names
abbrev pub HasTrace : Guest → Recorded → Type 0
HasTrace guest trace = (run : List Step) × IsRunOf guest trace run

-- what is recorded of some run is a run's trace
abbrev pub RecordingsFit : Type 0
RecordingsFit = (guest : Guest) (budget : ℕ) (profile : Profile) (before : List (List AnsweredCall)) (trace : Recorded) (outputs : List (List ℕ))
    (answers : List (List AnsweredCall))
    → IsRecordingOfSome guest budget profile before trace outputs answers → HasTrace guest trace

-- so is what is recorded of the run by turns
abbrev pub TurnsFit : Type 0
TurnsFit = (guest : Guest) (budget : ℕ) (profile : Profile) (turns : List Turn) (before : List (List AnsweredCall)) (trace : Recorded) (outputs : List (List ℕ))
    (answers : List (List AnsweredCall))
    → IsRecordingByTurns guest budget profile turns before trace outputs answers → HasTrace guest trace

-- where a run has the trace, judging it gives up only where memory runs out
abbrev pub NoRefusal : Type 0
NoRefusal = (guest : Guest) (trace : Recorded) (e : FitErr) → HasTrace guest trace → IsRefused guest trace e → e ≡ NoMem
