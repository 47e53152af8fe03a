-- What is held of a session and of a connection where less is said of their reader.
use Rattle.std.proofs.Common.{◌≡◌, ◌⊎◌, ℕ, List, Option, Ok, inl, inr}
use Rattle.std.specs.Prelude.{◌≢◌}
use Rattle.ir_debug.specs.declared.ended.Ended.{Ended}
use Rattle.ir_debug.specs.declared.ended.SessionErr.{SessionErr}
use Rattle.ir_debug.specs.declared.ended.SessionErr.TheVariants as session
use Rattle.ir_files.specs.Writers.{Writer}
use Rattle.ir_files.specs.declared.exit_status.ExitStatus.{ExitStatus}
use Rattle.ir_files.specs.declared.exit_status.ExitStatus.TheVariants as status
use Rattle.ir_program.specs.Bundle.{status_of}
use Rattle.ir_commands.specs.Files.{OfImageAndTrace}
use Rattle.ir_commands.specs.Printing.{LeavesUnread}
use Rattle.ir_program.specs.Doing.{HeldBundle}
use Rattle.ir_program.specs.declared.fault.ProgramErr.{ProgramErr}
use Rattle.ir_program.specs.Connecting.{HeldConnection, Stopped}
use Rattle.ir_program.specs.Leaving.{ComesToEnd, HeldSession, LeavesAfterFault, StopsSession}
use Rattle.ir_program.specs.Taking.{TakenReader}

stops_weaker : (image trace : List ℕ) (reader : TakenReader) (out : Writer) {A B : Type 0} → (A → B) → (e : SessionErr)
    → StopsSession image trace e reader out A → StopsSession image trace e reader out B
stops_weaker image trace reader out to session.NoMem s = to s
stops_weaker image trace reader out to session.Read s = s
stops_weaker image trace reader out to session.Write s = s
stops_weaker image trace reader out to session.TooLong s = s

-- a session was held that leaves less
pub held_weaker : {image trace : List ℕ} {answered : ExitStatus} {reader : TakenReader} {out : Writer} {A B : Type 0} → (A → B)
    → HeldSession image trace answered reader out A → HeldSession image trace answered reader out B
held_weaker {image = image} {trace = trace} {reader = reader} {out = out} to held =
    record { ended = held.ended; stopped = λ f. let s = held.stopped f in (s.0, stops_weaker image trace reader out to s.0 s.1) }

stopped_weaker : (image trace : List ℕ) (reader : TakenReader) (out : Writer) {A B : Type 0} → (A → B) → (e : SessionErr)
    → Stopped image trace e reader out A → Stopped image trace e reader out B
stopped_weaker image trace reader out to session.NoMem s = to s
stopped_weaker image trace reader out to session.Read s = s
stopped_weaker image trace reader out to session.Write s = s
stopped_weaker image trace reader out to session.TooLong s = s

-- a connection was held that leaves less
pub connection_weaker : {image trace : List ℕ} {answered : ExitStatus} {reader : TakenReader} {out : Writer} {A B C : Type 0} → (A → B)
    → HeldConnection image trace answered reader out A C → HeldConnection image trace answered reader out B C
connection_weaker {image = image} {trace = trace} {reader = reader} {out = out} to held =
    record { ended = held.ended; stopped = λ f. let s = held.stopped f in (s.0, stopped_weaker image trace reader out to s.0 s.1) }

-- a session of two files was held over what the reader had; of the reader no more is said
pub holds_session : {known_image known_trace : Option (List ℕ)} {answered : ExitStatus} {reader : TakenReader} {out faults : Writer} {A B S : Type 0}
    (before : Option (List ℕ)) → OfImageAndTrace known_image known_trace (λ image trace. HeldSession image trace answered reader out (A × B))
    ⊎ LeavesUnread S (A × B) faults → reader.before ≡ before
    → OfImageAndTrace known_image known_trace (λ image trace. (x : TakenReader) × (x.before ≡ before) × HeldSession image trace answered x out B)
    ⊎ LeavesUnread S B faults
holds_session {reader = reader} before (inl h) is =
    inl (record { image = h.image; trace = h.trace; is_image = h.is_image; is_trace = h.is_trace; so = (reader, is, held_weaker (λ p. p.1) h.so) })
holds_session before (inr h) is = inr (record { status = h.status; kept = h.kept.1; told = h.told })

-- the same of a connection
pub holds_connection : {known_image known_trace : Option (List ℕ)} {answered : ExitStatus} {reader : TakenReader} {out faults : Writer} {A B S : Type 0}
    (before : Option (List ℕ)) → OfImageAndTrace known_image known_trace (λ image trace. HeldConnection image trace answered reader out (A × B) B)
    ⊎ LeavesUnread S (A × B) faults → reader.before ≡ before
    → OfImageAndTrace known_image known_trace (λ image trace. (x : TakenReader) × (x.before ≡ before) × HeldConnection image trace answered x out B B)
    ⊎ LeavesUnread S B faults
holds_connection {reader = reader} before (inl h) is =
    inl (record { image = h.image; trace = h.trace; is_image = h.is_image; is_trace = h.is_trace; so = (reader, is, connection_weaker (λ p. p.1) h.so) })
holds_connection before (inr h) is = inr (record { status = h.status; kept = h.kept.1; told = h.told })

-- the same of the session of standard input
pub holds_bundle : {answered : ExitStatus} {reader : TakenReader} {out : Writer} {U K : Type 0} {L : ProgramErr → Type 0} (before : Option (List ℕ))
    → (answered ≢ status.Failed → (e : Ended) × (answered ≡ status_of e) × ComesToEnd (Ok e) reader out × K)
    → (answered ≡ status.Failed → (e : ProgramErr) × LeavesAfterFault e reader out U × L e)
    → reader.before ≡ before → (x : TakenReader) × (x.before ≡ before) × HeldBundle answered x out U
holds_bundle {reader = reader} before ended stopped is = (
  reader,
  is,
  record {
    ended = λ n. let h = ended n in (h.0, h.1, h.2);
    stopped = λ f. let h = stopped f in (h.0, h.1);
  },
)
