-- What a bundled session leaves of its reader and its writer.
use Rattle.std.specs.Prelude.{◌≡◌, ◌≢◌, ◌⊎◌, ℕ, true, false, List, Option, IfSome, Result, Ok, Err, None}
use Rattle.ir_stream.specs.Answers.{ReadsUpTo}
use Rattle.ir_debug.specs.Session.{Session, AnsweredWhole, AnsweredInPart, most_input}
use Rattle.ir_debug.specs.declared.ended.Ended.{Ended}
use Rattle.ir_debug.specs.declared.ended.SessionErr.{SessionErr}
use Rattle.ir_debug.specs.declared.ended.SessionErr.TheVariants as session
use Rattle.ir_files.specs.declared.exit_status.ExitStatus.{ExitStatus}
use Rattle.ir_files.specs.declared.exit_status.ExitStatus.TheVariants.{Failed}
use Rattle.ir_program.specs.Bundle.{bundle_of, status_of, Bundled}
use Rattle.ir_program.specs.Taking.{TakenReader, TakesBytes, IsInLines}
use Rattle.ir_files.specs.Writers.{Writer}
use Rattle.ir_program.specs.declared.fault.ProgramErr.{ProgramErr}
use Rattle.ir_program.specs.declared.fault.ProgramErr.TheVariants.{BadLine, NoMem, Read, Write, TooLong}

-- the lines of an image and a trace were taken, and this holds of them and of what was read after them
pub record Serves (old new : Option (List ℕ)) (P : List ℕ → List ℕ → List ℕ → Type 0) : Type 0 where
  pub image : List ℕ
  pub trace : List ℕ
  pub after_image : Option (List ℕ)
  pub after_trace : Option (List ℕ)
  pub image_line : TakesBytes old after_image image
  pub trace_line : TakesBytes after_image after_trace trace
  pub commands : ReadsUpTo most_input after_trace new (P image trace)

-- their session came to this result, and wrote these bytes
abbrev pub Came : Result Ended SessionErr → Option (List ℕ) → Option (List ℕ) → List ℕ → List ℕ → List ℕ → Type 0
Came result old new image trace commands = Session image trace most_input result old new commands

-- their session answered the lines that were read whole
abbrev pub CameWhole : Option (List ℕ) → Option (List ℕ) → List ℕ → List ℕ → List ℕ → Type 0
CameWhole old new image trace commands = AnsweredWhole image trace old new commands

-- their session answered a part of the lines that were read
abbrev pub CameInPart : Option (List ℕ) → Option (List ℕ) → Option (List ℕ) → List ℕ → List ℕ → List ℕ → Type 0
CameInPart left old new image trace commands = AnsweredInPart image trace left old new commands

-- neither the reader nor the writer has failed, and the bytes that were read led to this result and to what was written
pub record ComesToEnd (result : Result Ended SessionErr) (reader : TakenReader) (writer : Writer) : Type 0 where
  pub reads : reader.failed ≡ false
  pub writes : writer.failed ≡ false
  pub known : IfSome reader.before (Bundled result writer.before writer.after)
  pub served : Serves reader.before reader.after (Came result writer.before writer.after)

-- what a fault leaves, the last being that the writer is as it was
abbrev pub LeavesAfterFault : ProgramErr → TakenReader → Writer → Type 0 → Type 0
LeavesAfterFault BadLine reader writer same = IfSome reader.before (λ input. bundle_of input ≡ None) × (reader.failed ≡ false) × same
LeavesAfterFault NoMem reader writer same = (reader.failed ≡ false) × same
LeavesAfterFault Read reader writer same =
    (reader.failed ≡ true) × (writer.failed ≡ false)
    × ((IsInLines reader.before reader.after × same) ⊎ Serves reader.before reader.after (CameWhole writer.before writer.after))
LeavesAfterFault Write reader writer same = (reader.failed ≡ false) × (writer.failed ≡ true)
    × Serves reader.before reader.after (CameInPart reader.after writer.before writer.after)
LeavesAfterFault TooLong reader writer same = ComesToEnd (Err session.TooLong) reader writer

-- ---- an image and a trace that aren't read from the lines

-- neither the reader nor the writer has failed, and the bytes that were read led to this result and to what was written
pub record EndsSession (image trace : List ℕ) (result : Result Ended SessionErr) (reader : TakenReader) (writer : Writer) : Type 0 where
  pub reads : reader.failed ≡ false
  pub writes : writer.failed ≡ false
  pub known : IfSome reader.before (Session image trace most_input result writer.before writer.after)
  pub served : ReadsUpTo most_input reader.before reader.after (Session image trace most_input result writer.before writer.after)

-- what a fault of their session leaves, the last being that reader and writer are as they were
abbrev pub StopsSession : List ℕ → List ℕ → SessionErr → TakenReader → Writer → Type 0 → Type 0
StopsSession image trace session.NoMem reader writer same = same
StopsSession image trace session.Read reader writer same = (reader.failed ≡ true) × (writer.failed ≡ false)
    × ReadsUpTo most_input reader.before reader.after (AnsweredWhole image trace writer.before writer.after)
StopsSession image trace session.Write reader writer same = (reader.failed ≡ false) × (writer.failed ≡ true)
    × ReadsUpTo most_input reader.before reader.after (AnsweredInPart image trace reader.after writer.before writer.after)
StopsSession image trace session.TooLong reader writer same = EndsSession image trace (Err session.TooLong) reader writer

-- their session was held: it ended with a status, or a fault stopped it
pub record HeldSession (image trace : List ℕ) (answered : ExitStatus) (reader : TakenReader) (writer : Writer) (same : Type 0) : Type 0 where
  pub ended : answered ≢ Failed → (e : Ended) × (answered ≡ status_of e) × EndsSession image trace (Ok e) reader writer
  pub stopped : answered ≡ Failed → (e : SessionErr) × StopsSession image trace e reader writer same

-- the fault that is reported
abbrev pub session_fault : SessionErr → ProgramErr
session_fault session.NoMem = NoMem
session_fault session.Read = Read
session_fault session.Write = Write
session_fault session.TooLong = TooLong
