-- What bytes are answered that a question is about, and what is left where they aren't answered.
use Rattle.std.specs.Prelude.{◌≡◌, ◌⊎◌, ℕ, Bool, true, false, List, [], codes, Result, Ok}
use Rattle.std.specs.Io.KnownBytes.{Appends}
use Rattle.ir_trace.specs.Recorded.{Recorded}
use Rattle.ir_trace.specs.declared.trace_err.TraceErr.{TraceErr}
use Rattle.ir_files.specs.Writers.{Writer}
use Rattle.ir_files.specs.declared.exit_status.ExitStatus.{ExitStatus}
use Rattle.ir_files.specs.declared.exit_status.ExitStatus.TheVariants as status
use Rattle.ir_past.specs.Answers.{AreCoherent, IsRefusal, NotAnswered, fault_words}
use Rattle.ir_past.specs.declared.absent.Absent.{Absent}
use Rattle.ir_past.specs.declared.absent.Absent.TheVariants as absent
use Rattle.ir_past.specs.declared.ask_err.AskErr.{AskErr}
use Rattle.ir_past.specs.declared.ask_err.AskErr.TheVariants as ask
use Rattle.ir_past.specs.declared.past_err.PastErr.TheVariants.{NoMem}

-- the exit status may be one of an answer: it is that of no failure, and of no bad arguments
abbrev pub is_of_answer : ExitStatus → Bool
is_of_answer status.Done = true
is_of_answer status.Failed = false
is_of_answer status.BadArguments = false
is_of_answer status.Refused = true
is_of_answer status.NotFit = true
is_of_answer status.NotSo = true
is_of_answer status.GaveUp = true
is_of_answer status.Hangs = true

-- an answer whose text is one of these, with the status that all was done
abbrev pub IsDoneWith : (List ℕ → Type 0) → ExitStatus → List ℕ → Type 0
IsDoneWith IsText answered text = (answered ≡ status.Done) × IsText text

-- nothing was written
pub record IsUntouched (w : Writer) : Type 0 where
  pub none : Appends w.before w.after []
  pub works : w.failed ≡ false

-- why there is no text of an answer: what it is about isn't there, or memory ran out
abbrev pub IsTextless : (Absent → Type 0) → AskErr → Type 0
IsTextless IsAbsent (ask.Absent what) = IsAbsent what
IsTextless IsAbsent (ask.Unwritten e) = e ≡ NoMem

-- why no answer such as these was written, and what that leaves
abbrev pub IsUnsaid : (ExitStatus → List ℕ → Type 0) → (Absent → Type 0) → AskErr → Writer → Type 0
IsUnsaid IsAnswer IsAbsent (ask.Absent what) w = IsAbsent what × IsUntouched w
IsUnsaid IsAnswer IsAbsent (ask.Unwritten e) w = NotAnswered IsAnswer e w

-- bytes are answered: about what they are, or by why they are refused
abbrev pub IsReply : {X : Type 0} → (X → Type 0) → (X → ExitStatus → List ℕ → Type 0) → (ExitStatus → List ℕ → Type 0) → ExitStatus → List ℕ → Type 0
IsReply {X} Are IsAnswer IsRefused answered text = ((x : X) × Are x × IsAnswer x answered text) ⊎ IsRefused answered text

-- the bytes are something that doesn't have what is asked about, and nothing was written
pub record IsOfNothing {X : Type 0} (Are IsAbsent : X → Type 0) (w : Writer) : Type 0 where
  pub subject : X
  pub is : Are subject
  pub lacks : IsAbsent subject
  pub untouched : IsUntouched w

-- why bytes aren't answered, and what that leaves
abbrev pub IsReplyless : {X : Type 0} → (X → Type 0) → (X → ExitStatus → List ℕ → Type 0) → (X → Absent → Type 0) → (ExitStatus → List ℕ → Type 0)
    → AskErr → Writer → Type 0
IsReplyless Are IsAnswer IsAbsent IsRefused (ask.Absent what) w = IsOfNothing Are (λ x. IsAbsent x what) w
IsReplyless Are IsAnswer IsAbsent IsRefused (ask.Unwritten e) w = NotAnswered (IsReply Are IsAnswer IsRefused) e w

-- a trace was read, and it is coherent
abbrev pub IsTraceRead : Result Recorded TraceErr → Recorded → Type 0
IsTraceRead read r = (read ≡ Ok r) × AreCoherent r

-- the exit status and the text that the bytes of a trace are answered by, where the answer about a coherent trace is one such as these
abbrev pub IsTraceReply : (Recorded → ExitStatus → List ℕ → Type 0) → Result Recorded TraceErr → ExitStatus → List ℕ → Type 0
IsTraceReply IsAnswer read = IsReply (IsTraceRead read) IsAnswer (IsRefusal read)

-- why they aren't answered, and what that leaves
abbrev pub IsTraceReplyless : (Recorded → ExitStatus → List ℕ → Type 0) → (Recorded → Absent → Type 0) → Result Recorded TraceErr → AskErr → Writer → Type 0
IsTraceReplyless IsAnswer IsAbsent read = IsReplyless (IsTraceRead read) IsAnswer IsAbsent (IsRefusal read)

-- the same where the text alone is the answer about a coherent trace
abbrev pub IsAnswerOf : (Recorded → List ℕ → Type 0) → Result Recorded TraceErr → ExitStatus → List ℕ → Type 0
IsAnswerOf IsText = IsTraceReply (λ r. IsDoneWith (IsText r))

abbrev pub IsAnswerlessOf : (Recorded → List ℕ → Type 0) → (Recorded → Absent → Type 0) → Result Recorded TraceErr → AskErr → Writer → Type 0
IsAnswerlessOf IsText = IsTraceReplyless (λ r. IsDoneWith (IsText r))

-- the exit status of a question that wasn't answered
abbrev pub ask_status : AskErr → ExitStatus
ask_status (ask.Absent what) = status.BadArguments
ask_status (ask.Unwritten e) = status.Failed

-- what isn't there, in words
abbrev pub absent_words : Absent → List ℕ
absent_words absent.Object = codes "the trace has no object of this number"
absent_words absent.Version = codes "the object has no version of this number"
absent_words absent.Word = codes "the object has no word of this number"
absent_words absent.Thread = codes "the trace has no thread of this number"
absent_words absent.Event = codes "the thread has no event of this number"
absent_words absent.Cut = codes "the positions are no consistent cut of the run"

-- why a question wasn't answered, in words
abbrev pub ask_words : AskErr → List ℕ
ask_words (ask.Absent what) = absent_words what
ask_words (ask.Unwritten e) = fault_words e
