-- What the bytes of an image and of a trace are answered.
use Rattle.std.proofs.Common.{◌≡◌, ℕ, inr, Bool, true, false, List, Option, Result, Ok, Err, IfOk, OnOk, IfErr, refl}
use Rattle.std.specs.Io.KnownBytes.{Appends}
use Rattle.ir_fit.specs.Fit.{FittedTrace}
use Rattle.ir_files.specs.Writers.{writer_of}
use Rattle.ir_files.specs.declared.exit_status.ExitStatus.{ExitStatus}
use Rattle.ir_past.specs.Answers.{Answered, NotAnswered, Stops}
use Rattle.ir_past.specs.Replies.{is_of_answer}
use Rattle.ir_past.specs.declared.past_err.PastErr.{PastErr}
use Rattle.ir_past.proofs.CallerLemmas.{answered_if_written, not_answered_if_stopped}
use Rattle.ir_opened.specs.Opened.{IsUnfitFor, unfit_text, unfit_status}
use Rattle.ir_opened.specs.Answers.{IsRunReply}
use Rattle.ir_opened.specs.declared.opened.Refusal.{Refusal}
use Rattle.ir_opened.specs.declared.opened.Refusal.TheVariants as refusal

-- a text that says why bytes don't fit was written, or was stopped
pub fit_refusal_is_answered : (A : FittedTrace → ExitStatus → List ℕ → Type 0) (image trace : List ℕ) (why : Refusal) (result : Result ExitStatus PastErr)
    (a b : Option (List ℕ)) (failed : Bool) → IsUnfitFor image trace why → IfOk result (λ s. s ≡ unfit_status why)
    → OnOk result (Appends a b (unfit_text why)) → OnOk result (failed ≡ false)
    → IfErr result (λ e. Stops e (writer_of a b failed) (unfit_text why))
    → IfOk result (λ s. Answered (IsRunReply A image trace) s (writer_of a b failed))
    × IfErr result (λ e. NotAnswered (IsRunReply A image trace) e (writer_of a b failed))
fit_refusal_is_answered A image trace why (Ok s) a b failed because same written works fails = (
  answered_if_written (IsRunReply A image trace) s a b failed (unfit_text why)
      (inr (record { why = why; because = because; status = same; line = refl })) written works,
  tt,
)
fit_refusal_is_answered A image trace why (Err e) a b failed because same written works fails = (
  tt,
  not_answered_if_stopped (IsRunReply A image trace) (unfit_status why) (unfit_text why) e (writer_of a b failed)
      (inr (record { why = why; because = because; status = refl; line = refl })) fails,
)

-- a refusal has the status of an answer
pub unfit_status_is_answer : (why : Refusal) → is_of_answer (unfit_status why) ≡ true
unfit_status_is_answer (refusal.NoImage fault) = refl
unfit_status_is_answer (refusal.NoTrace fault) = refl
unfit_status_is_answer (refusal.NoRun verdict) = refl
