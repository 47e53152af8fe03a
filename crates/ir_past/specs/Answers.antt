-- What is answered where a trace is asked about, and what is left where not all of an answer was written.
use Rattle.std.specs.Prelude.{◌≡◌, ◌⊎◌, ℕ, List, [], ◌∷◌, ◌++◌, codes, decimal, length, Some, Result, Ok, Err, false}
use Rattle.std.specs.Io.KnownBytes.{Appends}
use Rattle.ir_stream.specs.Answers.{AppendsPrefix}
use Rattle.ir_runs.specs.Coherent.{IsCoherent}
use Rattle.ir_trace.specs.Recorded.{Recorded, trace_of, trace_fault_number}
use Rattle.ir_trace.specs.declared.trace_err.TraceErr.{TraceErr}
use Rattle.ir_coherence.specs.Breaking.{IsFirstBreak, cause_number}
use Rattle.ir_coherence.specs.declared.incoherence.Incoherence.{Incoherence}
use Rattle.ir_files.specs.Writers.{Writer, Failed, Took}
use Rattle.ir_files.specs.declared.exit_status.ExitStatus.{ExitStatus}
use Rattle.ir_files.specs.declared.exit_status.ExitStatus.TheVariants as status
use Rattle.ir_past.specs.declared.opened.Opened.{Opened}
use Rattle.ir_past.specs.declared.opened.Opened.TheVariants as opened
use Rattle.ir_past.specs.declared.opened.Refusal.{Refusal}
use Rattle.ir_past.specs.declared.opened.Refusal.TheVariants as refusal
use Rattle.ir_past.specs.declared.past_err.PastErr.{PastErr}
use Rattle.ir_past.specs.declared.past_err.PastErr.TheVariants.{NoMem, Write}

-- the recorded trace is coherent
abbrev pub AreCoherent : Recorded → Type 0
AreCoherent r = IsCoherent (length r.threads) (trace_of r)

-- why bytes are no coherent trace
abbrev pub IsRefusedFor : Result Recorded TraceErr → Refusal → Type 0
IsRefusedFor (Ok r) (refusal.NoTrace fault) = ⊥
IsRefusedFor (Ok r) (refusal.Incoherent x) = IsFirstBreak (length r.threads) (trace_of r) x.thread x.event x.cause
IsRefusedFor (Err e) (refusal.NoTrace fault) = trace_fault_number e ≡ Some fault
IsRefusedFor (Err e) (refusal.Incoherent x) = ⊥

-- what bytes are
abbrev pub IsOpened : Result Recorded TraceErr → Opened → Type 0
IsOpened read (opened.Coherent r) = (read ≡ Ok r) × AreCoherent r
IsOpened read (opened.Refused why) = IsRefusedFor read why

-- the line that refuses bytes that are no trace, by the number of their first fault
abbrev pub refused_line : ℕ → List ℕ
refused_line fault = codes "trace refused " ++ (decimal fault ++ 10 ∷ [])

-- the line of the first event that breaks coherence
abbrev pub incoherent_line : Incoherence → List ℕ
incoherent_line f =
    codes "incoherent thread " ++ (decimal f.thread ++ (codes " event " ++ (decimal f.event ++ (codes " cause "
    ++ (decimal (cause_number f.cause) ++ 10 ∷ [])))))

-- the line that says why bytes are no coherent trace
abbrev pub trace_refusal_text : Refusal → List ℕ
trace_refusal_text (refusal.NoTrace fault) = refused_line fault
trace_refusal_text (refusal.Incoherent x) = incoherent_line x

-- and the exit status
abbrev pub refusal_status : Refusal → ExitStatus
refusal_status (refusal.NoTrace fault) = status.Refused
refusal_status (refusal.Incoherent x) = status.NotFit

-- the answer to bytes that are no coherent trace
pub record IsRefusal (read : Result Recorded TraceErr) (answered : ExitStatus) (text : List ℕ) : Type 0 where
  pub why : Refusal
  pub because : IsRefusedFor read why
  pub status : answered ≡ refusal_status why
  pub line : text ≡ trace_refusal_text why

-- an answer such as these was written whole
pub record Answered (IsAnswer : ExitStatus → List ℕ → Type 0) (answered : ExitStatus) (w : Writer) : Type 0 where
  pub text : List ℕ
  pub is : IsAnswer answered text
  pub took : Took w text
  pub works : w.failed ≡ false

-- what is left where not all of a text was written
abbrev pub Stops : PastErr → Writer → List ℕ → Type 0
Stops NoMem w text = AppendsPrefix w.before w.after text × (w.failed ≡ false)
Stops Write w text = Failed w text

-- memory ran out before anything was written
pub record NotBegun (e : PastErr) (w : Writer) : Type 0 where
  pub memory : e ≡ NoMem
  pub none : Appends w.before w.after []
  pub works : w.failed ≡ false

-- a fault stopped the writing of an answer such as these
pub record StoppedIn (IsAnswer : ExitStatus → List ℕ → Type 0) (e : PastErr) (w : Writer) : Type 0 where
  pub answered : ExitStatus
  pub text : List ℕ
  pub is : IsAnswer answered text
  pub stops : Stops e w text

-- no such answer was written whole: memory ran out before, or it was stopped
abbrev pub NotAnswered : (ExitStatus → List ℕ → Type 0) → PastErr → Writer → Type 0
NotAnswered IsAnswer e w = NotBegun e w ⊎ StoppedIn IsAnswer e w

-- the words of a fault
abbrev pub fault_words : PastErr → List ℕ
fault_words NoMem = codes "memory ran out"
fault_words Write = codes "standard output can't be written"
