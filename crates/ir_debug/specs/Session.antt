-- The bytes of a whole session, and how it ends.
use Rattle.std.specs.Prelude.{◌≡◌, ◌≢◌, ◌⊎◌, ℕ, false, ⊤, List, [], ◌∷◌, ◌++◌, Option, Result, Ok, Err}
use Rattle.std.specs.Io.KnownBytes.{Appends, IsAtEnd}
use Rattle.ir_stream.specs.Answers.{split_lines, heard, lines_of, LinesAnswered, RepliedPrefix, through, some_quits, ends, AppendsPrefix}
use Rattle.ir_stream.specs.declared.serving.Served.{Served}
use Rattle.ir_stream.specs.declared.serving.Served.TheVariants as served
use Rattle.ir_stream.specs.declared.serving.Fault.{Fault}
use Rattle.ir_stream.specs.declared.serving.Fault.TheVariants as fault
use Rattle.ir_debug.specs.Machine.{Desk, Replies, quits, Opening, Opens, opening_text}
use Rattle.ir_debug.specs.Machine as opening
use Rattle.ir_debug.specs.declared.ended.Ended.{Ended}
use Rattle.ir_debug.specs.declared.ended.Ended.TheVariants.{Quit, InputEnd, ImageRefused, TraceRefused, NotFit}
use Rattle.ir_debug.specs.declared.ended.SessionErr.{SessionErr}
use Rattle.ir_debug.specs.declared.ended.SessionErr.TheVariants.{Read, Write, TooLong}

-- the most bytes that a session reads
abbrev pub most_input : ℕ
most_input = 1073741824

-- ---- how it ends

abbrev pub ended_by : Result Served Fault → Result Ended SessionErr
ended_by (Ok served.Quit) = Ok Quit
ended_by (Ok served.InputEnd) = Ok InputEnd
ended_by (Err fault.Read) = Err Read
ended_by (Err fault.Write) = Err Write
ended_by (Err fault.TooLong) = Err TooLong

-- how a session over an input ends where no device fails
abbrev pub ending_of : Opening → ℕ → List ℕ → Result Ended SessionErr
ending_of (opening.ImageRefused e) limit input = Ok ImageRefused
ending_of (opening.TraceRefused e) limit input = Ok TraceRefused
ending_of (opening.Unfit v) limit input = Ok NotFit
ending_of (opening.Ready d) limit input = ended_by (ends quits limit input)

-- unless a device failed or memory ran out
abbrev pub IfServed : Result Ended SessionErr → Type 0 → Type 0
IfServed (Ok e) P = P
IfServed (Err TooLong) P = P
IfServed result P = ⊤

-- where no machine was ready
abbrev pub IfRefused : Result Ended SessionErr → Type 0 → Type 0
IfRefused (Ok ImageRefused) P = P
IfRefused (Ok TraceRefused) P = P
IfRefused (Ok NotFit) P = P
IfRefused result P = ⊤

-- what was read ends with the line that quits, or with the input; only where the input ends is a line unfinished
abbrev pub ReadsThrough : Ended → Option (List ℕ) → List ℕ → Type 0
ReadsThrough Quit left consumed = (through quits (lines_of consumed) ≡ lines_of consumed) × ((split_lines consumed).rest ≢ [] → IsAtEnd left)
ReadsThrough InputEnd left consumed = IsAtEnd left
ReadsThrough refused left consumed = ⊤

-- ---- what it writes

-- the machine may answer the lines in turn so that this is the session's text, opening lines and answers; last has the machine as it then is
abbrev pub SessionText : Opening → List (List ℕ) → List ℕ → Opening → Type 0
SessionText (opening.Ready d) lines text last = (answers : List ℕ) × (desk : Desk) × LinesAnswered Replies d lines answers desk
    × (text ≡ opening_text (opening.Ready d) ++ answers) × (last ≡ opening.Ready desk)
SessionText refused lines text last = (text ≡ opening_text refused) × (last ≡ refused)

-- image and trace open this, and with these lines the session has such a text, which the writer took so
pub record Transcript (image trace : List ℕ) (lines : List (List ℕ)) (Took : List ℕ → Opening → Type 0) : Type 0 where
  pub opening : Opening
  pub opens : Opens image trace opening
  pub text : List ℕ
  pub last : Opening
  pub says : SessionText opening lines text last
  pub took : Took text last

-- the input leads to this result, and the writer took the opening lines and the answers to the lines up to and with the first that quits
pub record Session (image trace : List ℕ) (limit : ℕ) (result : Result Ended SessionErr) (old new : Option (List ℕ)) (input : List ℕ) : Type 0 where
  pub transcript : Transcript image trace (through quits (heard limit input)) (λ text last. Appends old new text)
  pub ending : result ≡ ending_of transcript.opening limit input

-- a machine is ready, and the writer took the opening lines and all answers to the lines that were read whole, none of which quits
pub record AnsweredWhole (image trace : List ℕ) (old new : Option (List ℕ)) (consumed : List ℕ) : Type 0 where
  pub goes : some_quits quits (split_lines consumed).whole ≡ false
  pub transcript : Transcript image trace (split_lines consumed).whole (λ text last. Appends old new text × ((desk : Desk) × (last ≡ opening.Ready desk)))

-- the writer took a text, and a prefix of what the machine of last may answer to a line
pub record Breaks (line : List ℕ) (old new : Option (List ℕ)) (text : List ℕ) (last : Opening) : Type 0 where
  pub desk : Desk
  pub ready : last ≡ opening.Ready desk
  pub between : Option (List ℕ)
  pub all : Appends old between text
  pub part : RepliedPrefix Replies desk line between new

-- where there are no lines a prefix of the opening lines; else these, the answers to all lines but the last, and a prefix of that one's
abbrev pub WritesInPart : List ℕ → List ℕ → List (List ℕ) → Option (List ℕ) → Option (List ℕ) → Type 0
WritesInPart image trace lines old new = ((lines ≡ []) × Transcript image trace [] (λ text last. AppendsPrefix old new text))
    ⊎ ((before : List (List ℕ)) × (line : List ℕ) × (lines ≡ before ++ line ∷ []) × Transcript image trace before (Breaks line old new))

-- a prefix of the opening lines was written before a line was read; or these, all answers to the lines but the last and a prefix of the
-- answer to that one, before a byte after it was read. None but the last may quit, and it is unfinished only at the end of the input
pub record AnsweredInPart (image trace : List ℕ) (left old new : Option (List ℕ)) (consumed : List ℕ) : Type 0 where
  pub goes : through quits (lines_of consumed) ≡ lines_of consumed
  pub ended : (split_lines consumed).rest ≢ [] → IsAtEnd left
  pub wrote : WritesInPart image trace (lines_of consumed) old new
