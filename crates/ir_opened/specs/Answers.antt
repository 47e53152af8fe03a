-- What is answered where a run of a guest with a trace is asked about.
use Rattle.std.specs.Prelude.{◌≡◌, ℕ, List}
use Rattle.ir_fit.specs.Fit.{FittedTrace}
use Rattle.ir_files.specs.Writers.{Writer}
use Rattle.ir_files.specs.declared.exit_status.ExitStatus.{ExitStatus}
use Rattle.ir_past.specs.Replies.{IsDoneWith, IsReply, IsReplyless}
use Rattle.ir_past.specs.declared.absent.Absent.{Absent}
use Rattle.ir_past.specs.declared.ask_err.AskErr.{AskErr}
use Rattle.ir_opened.specs.Opened.{IsFit, IsUnfitFor, unfit_text, unfit_status}
use Rattle.ir_opened.specs.declared.opened.Refusal.{Refusal}

-- the answer to bytes that don't fit
pub record IsUnfitRefusal (image trace : List ℕ) (answered : ExitStatus) (text : List ℕ) : Type 0 where
  pub why : Refusal
  pub because : IsUnfitFor image trace why
  pub status : answered ≡ unfit_status why
  pub line : text ≡ unfit_text why

-- the exit status and the text that the bytes of an image and of a trace are answered by, where the answer about a guest and a trace of one of its
-- runs is one such as these
abbrev pub IsRunReply : (FittedTrace → ExitStatus → List ℕ → Type 0) → List ℕ → List ℕ → ExitStatus → List ℕ → Type 0
IsRunReply IsAnswer image trace = IsReply (IsFit image trace) IsAnswer (IsUnfitRefusal image trace)

-- why they aren't answered, and what that leaves
abbrev pub IsRunReplyless : (FittedTrace → ExitStatus → List ℕ → Type 0) → (FittedTrace → Absent → Type 0) → List ℕ → List ℕ → AskErr → Writer → Type 0
IsRunReplyless IsAnswer IsAbsent image trace = IsReplyless (IsFit image trace) IsAnswer IsAbsent (IsUnfitRefusal image trace)

-- the same where the text alone is the answer about them
abbrev pub IsFitAnswerOf : (FittedTrace → List ℕ → Type 0) → List ℕ → List ℕ → ExitStatus → List ℕ → Type 0
IsFitAnswerOf IsText = IsRunReply (λ f. IsDoneWith (IsText f))

abbrev pub IsFitAnswerlessOf : (FittedTrace → List ℕ → Type 0) → (FittedTrace → Absent → Type 0) → List ℕ → List ℕ → AskErr → Writer → Type 0
IsFitAnswerlessOf IsText = IsRunReplyless (λ f. IsDoneWith (IsText f))
