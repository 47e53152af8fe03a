-- Answers to questions about what is always there.
use Rattle.std.proofs.Common.{◌≡◌, ◌⊎◌, ℕ, inl, inr, subst, List, Option, Some, None}
use Rattle.std.specs.Prelude.{String}
use Rattle.ir_files.specs.Writers.{Writer, Reports, fault_text}
use Rattle.ir_files.specs.declared.exit_status.ExitStatus.{ExitStatus}
use Rattle.ir_files.specs.declared.exit_status.ExitStatus.TheVariants as status
use Rattle.ir_opened.specs.Answers.{IsFitAnswerOf, IsUnfitRefusal}
use Rattle.ir_opened.specs.Opened.{IsFit}
use Rattle.ir_past.specs.Answers.{IsRefusal, NotAnswered, fault_words}
use Rattle.ir_past.specs.Lines.{IsStaleAnswer}
use Rattle.ir_past.specs.Replies.{IsAnswerOf, IsDoneWith, IsReply, IsReplyless, IsTraceRead, ask_status, ask_words}
use Rattle.ir_past.specs.declared.ask_err.AskErr.{AskErr}
use Rattle.ir_past.specs.declared.ask_err.AskErr.TheVariants as ask
use Rattle.ir_past.specs.declared.past_err.PastErr.{PastErr}
use Rattle.ir_stale_run.specs.Lines.{IsRestsAnswer}
use Rattle.ir_trace.specs.Recorded.{recorded_at}
use Rattle.ir_why.specs.Answers.{IsWhyTold, LacksEvent}
use Rattle.ir_why.specs.FitAnswers.{IsFitReason, LacksFitAsked}
use Rattle.ir_why.specs.declared.fit_question.FitQuestion.{FitQuestion}
use Rattle.ir_arguments.specs.declared.why.WhyArguments.{WhyArguments}
use Rattle.ir_commands.specs.Files.{IsUnread}
use Rattle.ir_commands.specs.Printing.{AnswersFiles, AnswersRun, AnswersTrace, IsPrinted, LeavesUnread, Paths, PrintedIfThere, PrintsOfFiles, PrintsWhy}
use Rattle.ir_commands.specs.Printing.{why_asked, why_asked_at}

-- an answer that there is none of is one of what isn't there, or a failure
no_reply_is_failure : {X : Type 0} (Are : X → Type 0) (A : X → ExitStatus → List ℕ → Type 0) (R : ExitStatus → List ℕ → Type 0) (s : ExitStatus) (e : AskErr)
    (out : Writer) → s ≡ ask_status e → IsReplyless Are A (λ _ _. ⊥) R e out → s ≡ status.Failed
no_reply_is_failure Are A R s (ask.Absent what) out same none = absurd none.lacks
no_reply_is_failure Are A R s (ask.Unwritten e) out same none = same

-- the fault that stopped an answer about what is always there
pub fault_of_no_reply : {X : Type 0} (Are : X → Type 0) (A : X → ExitStatus → List ℕ → Type 0) (R : ExitStatus → List ℕ → Type 0) (e : AskErr)
    (out faults : Writer) → IsReplyless Are A (λ _ _. ⊥) R e out → Reports faults (fault_text (ask_words e))
    → (f : PastErr) × NotAnswered (IsReply Are A R) f out × Reports faults (fault_text (fault_words f))
fault_of_no_reply Are A R (ask.Absent what) out faults none reports = absurd none.lacks
fault_of_no_reply Are A R (ask.Unwritten e) out faults none reports = (e, none, reports)

-- what is always there leaves no status of bad arguments
pub never_bad_arguments : {X : Type 0} (Are : X → Type 0) (A : X → ExitStatus → List ℕ → Type 0) (R : ExitStatus → List ℕ → Type 0) (s : ExitStatus)
    (out faults : Writer)
    → ((s ≡ status.Failed) ⊎ (s ≡ status.BadArguments)
    → (e : AskErr) × (s ≡ ask_status e) × IsReplyless Are A (λ _ _. ⊥) R e out × Reports faults (fault_text (ask_words e)))
    → (s ≡ status.Failed → ⊥) → s ≡ status.BadArguments → ⊥
never_bad_arguments Are A R s out faults failed works bad = let e = failed (inr bad) in works (no_reply_is_failure Are A R s e.0 out e.1 e.2)

-- what is always there is printed, or a fault stopped it
pub printed_if_always_there : {X : Type 0} (Are : X → Type 0) (A : X → ExitStatus → List ℕ → Type 0) (R : ExitStatus → List ℕ → Type 0) (s : ExitStatus)
    (out faults : Writer) → PrintedIfThere (IsReply Are A R) (IsReplyless Are A (λ _ _. ⊥) R) s out faults → IsPrinted (IsReply Are A R) s out faults
printed_if_always_there Are A R s out faults h = (
  (λ works. h.0 works (never_bad_arguments Are A R s out faults h.1 works)),
  (λ failed. let e = h.1 (inl failed) in fault_of_no_reply Are A R e.0 out faults e.2 e.3),
)

-- stale writes are printed of files, or a fault stopped them
pub stale_printed_of_files : {Y Z : Type 0} (at : Paths) (trace : String Y) (image : Option (String Z)) (s : ExitStatus) (out faults : Writer)
    → PrintsOfFiles at trace image (AnswersTrace (λ r. IsDoneWith (IsStaleAnswer r)) (λ _ _. ⊥)) (AnswersRun (λ f. IsDoneWith (IsRestsAnswer f)) (λ _ _. ⊥)) s out faults
    → PrintsOfFiles at trace image (λ bytes. IsPrinted (IsAnswerOf IsStaleAnswer (recorded_at bytes))) (λ bytes others. IsPrinted (IsFitAnswerOf IsRestsAnswer bytes others))
    s out faults
stale_printed_of_files at trace None s out faults h = record {
  trace = h.trace;
  is_trace = h.is_trace;
  so = printed_if_always_there (IsTraceRead (recorded_at h.trace)) (λ r. IsDoneWith (IsStaleAnswer r)) (IsRefusal (recorded_at h.trace)) s out faults h.so;
}
stale_printed_of_files at trace (Some path) s out faults h = record {
  image = h.image;
  trace = h.trace;
  is_image = h.is_image;
  is_trace = h.is_trace;
  so = printed_if_always_there (IsFit h.image h.trace) (λ f. IsDoneWith (IsRestsAnswer f)) (IsUnfitRefusal h.image h.trace) s out faults h.so;
}

-- the answer to a question that the arguments ask is printed of files
pub why_printed_of_files : (at : Paths) (arguments : WhyArguments) (asked : FitQuestion) (s : ExitStatus) (out faults : Writer) (unprinted : Type 0)
    → asked.what ≡ why_asked arguments → asked.at ≡ arguments.at
    → AnswersFiles at arguments.trace arguments.image (AnswersTrace (IsWhyTold asked.what) (LacksEvent asked.what))
    (AnswersRun (λ f. IsDoneWith (IsFitReason asked f)) (LacksFitAsked asked)) s out faults unprinted
    → PrintsWhy at arguments s out faults ⊎ LeavesUnread (IsUnread at arguments.image s) unprinted faults
why_printed_of_files at arguments asked s out faults unprinted what positions h =
    let same : asked ≡ why_asked_at arguments = λ i. record { what = what i; at = positions i } in
    subst (λ (q : FitQuestion). AnswersFiles at arguments.trace arguments.image (AnswersTrace (IsWhyTold q.what) (LacksEvent q.what))
    (AnswersRun (λ f. IsDoneWith (IsFitReason q f)) (LacksFitAsked q)) s out faults unprinted) same h
