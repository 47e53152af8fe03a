-- What the bytes of an image and of a trace are.
use Rattle.std.specs.Prelude.{◌≡◌, ℕ, List, ◌++◌, codes, decimal, Some, Ok, Err}
use Rattle.ir_image.specs.Guest.{Guest, guest_at, image_fault_number as image_fault}
use Rattle.ir_image.specs.declared.image_err.ImageErr.{ImageErr}
use Rattle.ir_trace.specs.Recorded.{Recorded, recorded_at, trace_fault_number as trace_fault}
use Rattle.ir_trace.specs.declared.trace_err.TraceErr.{TraceErr}
use Rattle.ir_fit.specs.Fit.{FittedTrace, HasRun, IsRefused}
use Rattle.ir_fit.specs.declared.fit_err.FitErr.TheVariants as fit_err
use Rattle.ir_fit.specs.declared.verdict.Verdict.{Verdict}
use Rattle.ir_files.specs.declared.exit_status.ExitStatus.{ExitStatus}
use Rattle.ir_files.specs.declared.exit_status.ExitStatus.TheVariants as status
use Rattle.ir_text.specs.Texts.{verdict_text}
use Rattle.ir_opened.specs.declared.opened.Opened.{Opened}
use Rattle.ir_opened.specs.declared.opened.Opened.TheVariants as opened
use Rattle.ir_opened.specs.declared.opened.Refusal.{Refusal}
use Rattle.ir_opened.specs.declared.opened.Refusal.TheVariants as refusal

-- the first bytes are no image
pub record IsNoImage (image : List ℕ) (fault : ℕ) : Type 0 where
  pub error : ImageErr
  pub is : guest_at image ≡ Err error
  pub number : image_fault error ≡ Some fault

-- the first bytes are an image, and the second no trace
pub record IsNoTrace (image trace : List ℕ) (fault : ℕ) : Type 0 where
  pub guest : Guest
  pub is_guest : guest_at image ≡ Ok guest
  pub error : TraceErr
  pub is : recorded_at trace ≡ Err error
  pub number : trace_fault error ≡ Some fault

-- they are an image and a trace, and no run of the guest has the trace, for this reason
pub record IsNoRun (image trace : List ℕ) (verdict : Verdict) : Type 0 where
  pub guest : Guest
  pub is_guest : guest_at image ≡ Ok guest
  pub recorded : Recorded
  pub is_recorded : recorded_at trace ≡ Ok recorded
  pub why : IsRefused guest recorded (fit_err.Refused verdict)

-- they are an image and a trace that a run of the guest has
pub record IsFit (image trace : List ℕ) (f : FittedTrace) : Type 0 where
  pub is_guest : guest_at image ≡ Ok f.guest
  pub is_recorded : recorded_at trace ≡ Ok f.recorded
  pub run : HasRun f

-- why they don't fit
abbrev pub IsUnfitFor : List ℕ → List ℕ → Refusal → Type 0
IsUnfitFor image trace (refusal.NoImage fault) = IsNoImage image fault
IsUnfitFor image trace (refusal.NoTrace fault) = IsNoTrace image trace fault
IsUnfitFor image trace (refusal.NoRun verdict) = IsNoRun image trace verdict

-- what they are
abbrev pub IsFitOpened : List ℕ → List ℕ → Opened → Type 0
IsFitOpened image trace (opened.Fits f) = IsFit image trace f
IsFitOpened image trace (opened.Refused why) = IsUnfitFor image trace why

-- the text that says why they don't fit
abbrev pub unfit_text : Refusal → List ℕ
unfit_text (refusal.NoImage fault) = codes "image refused " ++ decimal fault ++ codes "\n"
unfit_text (refusal.NoTrace fault) = codes "trace refused " ++ decimal fault ++ codes "\n"
unfit_text (refusal.NoRun verdict) = verdict_text verdict

-- and the exit status
abbrev pub unfit_status : Refusal → ExitStatus
unfit_status (refusal.NoImage fault) = status.Refused
unfit_status (refusal.NoTrace fault) = status.Refused
unfit_status (refusal.NoRun verdict) = status.NotFit
