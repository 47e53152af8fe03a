-- The statuses of answers about two traces.
use Rattle.std.proofs.Common.{◌≡◌, ◌∙◌, ℕ, inl, inr, true, List, Result, ap}
use Rattle.ir_trace.specs.Recorded.{Recorded}
use Rattle.ir_trace.specs.declared.trace_err.TraceErr.{TraceErr}
use Rattle.ir_files.specs.declared.exit_status.ExitStatus.{ExitStatus}
use Rattle.ir_past.specs.Replies.{is_of_answer}
use Rattle.ir_past.proofs.CallerLemmas.{refusal_status_is_answer}
use Rattle.ir_diff.specs.Lines.{IsPairAnswer, IsSecondAnswer}

pair_status_is_answer : (a b : Recorded) (s : ExitStatus) (text : List ℕ) → IsPairAnswer a b s text → is_of_answer s ≡ true
pair_status_is_answer a b s text (inl (threads, same, is)) = ap is_of_answer same
pair_status_is_answer a b s text (inr (inl (threads, objects, same, is))) = ap is_of_answer same
pair_status_is_answer a b s text (inr (inr (threads, objects, same, is))) = ap is_of_answer same

-- the answer about a trace and the bytes of a second one has the status of an answer
pub second_status_is_answer : (a : Recorded) (read : Result Recorded TraceErr) (s : ExitStatus) (text : List ℕ) → IsSecondAnswer a read s text
    → is_of_answer s ≡ true
second_status_is_answer a read s text (inl (b, same, coherent, is)) = pair_status_is_answer a b s text is
second_status_is_answer a read s text (inr h) = ap is_of_answer h.status ∙ refusal_status_is_answer h.why
