-- What a connection of gdb leaves of its reader and its writer, and of where faults are reported.
use Rattle.std.specs.Prelude.{◌≡◌, ◌≢◌, ℕ, true, false, List, IfSome, Result, Ok, Err}
use Rattle.std.specs.Io.KnownBytes.{Appends}
use Rattle.ir_stream.specs.Answers.{ReadsUpTo, AppendsPrefix}
use Rattle.ir_debug.specs.Session.{most_input, IfRefused}
use Rattle.ir_debug.specs.declared.ended.Ended.{Ended}
use Rattle.ir_debug.specs.declared.ended.SessionErr.{SessionErr}
use Rattle.ir_debug.specs.declared.ended.SessionErr.TheVariants as session
use Rattle.ir_gdb.specs.Session.{Connected, Announced, RepliedWhole, RepliedInPart, IfNotRefused}
use Rattle.ir_program.specs.Taking.{TakenReader}
use Rattle.ir_files.specs.Writers.{Writer}
use Rattle.ir_files.specs.declared.exit_status.ExitStatus.{ExitStatus}
use Rattle.ir_files.specs.declared.exit_status.ExitStatus.TheVariants.{Failed}
use Rattle.ir_program.specs.Bundle.{status_of}

-- neither the reader nor the writer has failed, and the bytes that were read led to this result and to what was written
pub record Led (image trace : List ℕ) (result : Result Ended SessionErr) (reader : TakenReader) (writer : Writer) : Type 0 where
  pub reads : reader.failed ≡ false
  pub writes : writer.failed ≡ false
  pub known : IfSome reader.before (Connected image trace result writer.before writer.after)
  pub served : ReadsUpTo most_input reader.before reader.after (Connected image trace result writer.before writer.after)

-- these lines were announced, or a part of them where that has failed
abbrev pub TookOrFailed : Writer → List ℕ → Type 0
TookOrFailed faults text = AppendsPrefix faults.before faults.after text
    × (faults.failed ≡ false → Appends faults.before faults.after text)

-- A connection that ended so; `untouched` says that the reader and the writer are as they were, and `unreported` that no fault was reported. If
-- nothing was opened, why is announced.
pub record Closed (image trace : List ℕ) (ended : Ended) (reader : TakenReader) (writer faults : Writer) (untouched unreported : Type 0) : Type 0 where
  pub led : Led image trace (Ok ended) reader writer
  pub unread : IfRefused (Ok ended) untouched
  pub announced : IfRefused (Ok ended) (Announced image trace (Ok ended) (TookOrFailed faults))
  pub quiet : IfNotRefused (Ok ended) unreported

-- what a fault of a connection leaves
abbrev pub Stopped : List ℕ → List ℕ → SessionErr → TakenReader → Writer → Type 0 → Type 0
Stopped image trace session.NoMem reader writer untouched = untouched
Stopped image trace session.Read reader writer untouched = (reader.failed ≡ true) × (writer.failed ≡ false)
    × ReadsUpTo most_input reader.before reader.after (RepliedWhole image trace writer.before writer.after)
Stopped image trace session.Write reader writer untouched = (reader.failed ≡ false) × (writer.failed ≡ true)
    × ReadsUpTo most_input reader.before reader.after (RepliedInPart image trace writer.before writer.after)
Stopped image trace session.TooLong reader writer untouched = Led image trace (Err session.TooLong) reader writer

-- A connection was held. It ended with a status, and if nothing was opened, why that is was announced, and nothing was written (`unwritten`); or a
-- fault stopped it.
pub record HeldConnection (image trace : List ℕ) (answered : ExitStatus) (reader : TakenReader) (writer : Writer) (untouched unwritten : Type 0) : Type 0 where
  pub ended : answered ≢ Failed → (e : Ended) × (answered ≡ status_of e) × IfNotRefused (Ok e) (Led image trace (Ok e) reader writer)
      × IfRefused (Ok e) (unwritten × (told : Writer) × Announced image trace (Ok e) (TookOrFailed told))
  pub stopped : answered ≡ Failed → (e : SessionErr) × Stopped image trace e reader writer untouched
