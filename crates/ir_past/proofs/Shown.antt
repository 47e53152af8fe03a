-- What a trace's bytes are answered.
use Rattle.std.proofs.Common.{◌≡◌, ◌⊎◌, ℕ, inl, inr, Bool, true, false, List, Option, Result, Ok, Err, IfOk, OnOk, IfErr, refl, ap, subst}
use Rattle.std.specs.Io.KnownBytes.{Appends}
use Rattle.std.proofs.KnownBytes.{Appends-nil}
use Rattle.ir_trace.specs.Recorded.{Recorded}
use Rattle.ir_trace.specs.declared.trace_err.TraceErr.{TraceErr}
use Rattle.ir_files.specs.Writers.{Writer, writer_of}
use Rattle.ir_files.specs.declared.exit_status.ExitStatus.{ExitStatus}
use Rattle.ir_files.specs.declared.exit_status.ExitStatus.TheVariants as status
use Rattle.ir_past.specs.Past.{AreStaleWrites, write_count}
use Rattle.ir_past.specs.Answers.{IsRefusedFor, Answered, NotAnswered, Stops, trace_refusal_text, refusal_status}
use Rattle.ir_past.specs.Replies.{IsDoneWith, IsReply, IsReplyless, IsTraceReply, IsUnsaid, is_of_answer}
use Rattle.ir_past.specs.Lines.{stale_text, IsStaleAnswer}
use Rattle.ir_past.specs.declared.absent.Absent.{Absent}
use Rattle.ir_past.specs.declared.ask_err.AskErr.{AskErr}
use Rattle.ir_past.specs.declared.ask_err.AskErr.TheVariants as ask
use Rattle.ir_past.specs.declared.opened.Refusal.{Refusal}
use Rattle.ir_past.specs.declared.opened.Refusal.TheVariants as refusal
use Rattle.ir_past.specs.declared.stale_write.StaleWrite.{StaleWrite}
use Rattle.ir_past.specs.declared.past_err.PastErr.{PastErr}
use Rattle.ir_past.specs.declared.past_err.PastErr.TheVariants.{NoMem}

-- an answer that was written
pub answered_if_written : (P : ExitStatus → List ℕ → Type 0) (s : ExitStatus) (a b : Option (List ℕ)) (failed : Bool) (text : List ℕ) → P s text
    → Appends a b text → failed ≡ false → Answered P s (writer_of a b failed)
answered_if_written P s a b failed text is took works = record { text = text; is = is; took = took; works = works }

-- memory ran out before anything was written
pub no_memory_no_answer : (P : ExitStatus → List ℕ → Type 0) (a : Option (List ℕ)) (failed : Bool) → failed ≡ false
    → NotAnswered P NoMem (writer_of a a failed)
no_memory_no_answer P a failed works = inl record { memory = refl; none = Appends-nil a; works = works }

-- an answer that was stopped
pub not_answered_if_stopped : (P : ExitStatus → List ℕ → Type 0) (s : ExitStatus) (text : List ℕ) (e : PastErr) (w : Writer) → P s text → Stops e w text
    → NotAnswered P e w
not_answered_if_stopped P s text e w is stops = inr record { answered = s; text = text; is = is; stops = stops }

-- the answer to a coherent trace
pub stale_text_is_answer : (r : Recorded) (rows : List StaleWrite) (writes : ℕ) → AreStaleWrites r rows → writes ≡ write_count r
    → IsDoneWith (IsStaleAnswer r) status.Done (stale_text writes rows)
stale_text_is_answer r rows writes all count = (refl, record { rows = rows; all = all; lines = ap (λ (n : ℕ). stale_text n rows) count })

-- the answer about what bytes are is a reply to them, and so is what stopped it
pub reply_if_answered : {X : Type 0} (Are : X → Type 0) (A : X → ExitStatus → List ℕ → Type 0) (B : X → Absent → Type 0)
    (R : ExitStatus → List ℕ → Type 0) (x : X) (r : Result ExitStatus AskErr) (w : Writer) → Are x → IfOk r (λ s. Answered (A x) s w)
    → IfErr r (λ e. IsUnsaid (A x) (B x) e w)
    → IfOk r (λ s. Answered (IsReply Are A R) s w) × IfErr r (λ e. IsReplyless Are A B R e w)
reply_if_answered Are A B R x (Ok s) w are ok fails = (record { text = ok.text; is = inl (x, are, ok.is); took = ok.took; works = ok.works }, tt)
reply_if_answered Are A B R x (Err (ask.Absent what)) w are ok fails =
    (tt, record { subject = x; is = are; lacks = fails.0; untouched = fails.1 })
reply_if_answered Are A B R x (Err (ask.Unwritten e)) w are ok (inl none) = (tt, inl none)
reply_if_answered Are A B R x (Err (ask.Unwritten e)) w are ok (inr h) =
    (tt, inr (record { answered = h.answered; text = h.text; is = inl (x, are, h.is); stops = h.stops }))

-- a line that says why bytes are no coherent trace was written, or was stopped
pub refusal_is_answered : (A : Recorded → ExitStatus → List ℕ → Type 0) (read : Result Recorded TraceErr) (why : Refusal) (result : Result ExitStatus PastErr)
    (a b : Option (List ℕ)) (failed : Bool) → IsRefusedFor read why → IfOk result (λ s. s ≡ refusal_status why)
    → OnOk result (Appends a b (trace_refusal_text why)) → OnOk result (failed ≡ false)
    → IfErr result (λ e. Stops e (writer_of a b failed) (trace_refusal_text why))
    → IfOk result (λ s. Answered (IsTraceReply A read) s (writer_of a b failed))
    × IfErr result (λ e. NotAnswered (IsTraceReply A read) e (writer_of a b failed))
refusal_is_answered A read why (Ok s) a b failed because same written works fails = (
  answered_if_written (IsTraceReply A read) s a b failed (trace_refusal_text why) (inr (record { why = why; because = because; status = same; line = refl }))
      written works,
  tt,
)
refusal_is_answered A read why (Err e) a b failed because same written works fails = (
  tt,
  not_answered_if_stopped (IsTraceReply A read) (refusal_status why) (trace_refusal_text why) e (writer_of a b failed)
      (inr (record { why = why; because = because; status = refl; line = refl })) fails,
)

-- a refusal has the status of an answer
pub refusal_status_is_answer : (why : Refusal) → is_of_answer (refusal_status why) ≡ true
refusal_status_is_answer (refusal.NoTrace fault) = refl
refusal_status_is_answer (refusal.Incoherent x) = refl

-- the status of an answer is that of neither a failure nor bad arguments
pub answer_status_no_failure : (s : ExitStatus) → is_of_answer s ≡ true → (s ≡ status.Failed) ⊎ (s ≡ status.BadArguments) → ⊥
answer_status_no_failure s is (inl same) = let bad : false ≡ true = subst (λ z. is_of_answer z ≡ true) same is in cc
answer_status_no_failure s is (inr same) = let bad : false ≡ true = subst (λ z. is_of_answer z ≡ true) same is in cc
