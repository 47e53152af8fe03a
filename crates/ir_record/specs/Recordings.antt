-- Recordings as callers hand them on: the trace, the outputs and the worlds' answers of a complete run of the guest.
use Rattle.ir_thread.specs.declared.profile.Profile.{Profile}
use Rattle.std.specs.Prelude.{ℕ, List, length}
use Rattle.ir_image.specs.Guest.{Guest}
use Rattle.ir_flat.specs.Flat.{start_flat, tables, machine}
use Rattle.ir_runs.specs.Run.{Step}
use Rattle.ir_trace.specs.Recorded.{Recorded}
use Rattle.ir_record.specs.Recording.{IsRecordingOf}
use Rattle.ir_record.specs.Refusing.{Turn, IsByTurns}
use Rattle.ir_record.specs.Worlds.{AnsweredCall}

-- of some run
abbrev pub IsRecordingOfSome : Guest → ℕ → Profile → List (List AnsweredCall) → Recorded → List (List ℕ) → List (List AnsweredCall) → Type 0
IsRecordingOfSome guest budget profile before trace outputs answers = (run : List Step)
    × IsRecordingOf guest budget profile run before trace outputs answers

-- of the run by turns, in which tries may be refused
abbrev pub IsRecordingByTurns : Guest → ℕ → Profile → List Turn → List (List AnsweredCall) → Recorded → List (List ℕ) → List (List AnsweredCall) → Type 0
IsRecordingByTurns guest budget profile turns before trace outputs answers = (run : List Step)
    × IsByTurns (machine (start_flat guest budget profile)) (tables (start_flat guest budget profile)) (length guest.entries) turns run
    × IsRecordingOf guest budget profile run before trace outputs answers
