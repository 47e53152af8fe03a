-- What recording a guest writes.
use Rattle.std.specs.Prelude.{◌≡◌, ◌<◌, ℕ, ◌+◌, List, [], ◌∷◌, ◌++◌, length, replicate, codes, decimal, Option, Some, None, Ok}
use Rattle.std.specs.List.{slice_index_or}
use Rattle.std.specs.Option.{is_some}
use Rattle.ir_image.specs.Guest.{Guest, guest_at}
use Rattle.ir_thread.specs.State.{end_number, end_code}
use Rattle.ir_thread.specs.declared.profile.Profile.{Profile}
use Rattle.ir_trace.specs.Recorded.{RecordedThread, Recorded}
use Rattle.ir_record.specs.Recordings.{IsRecordingByTurns, IsRecordingOfSome}
use Rattle.ir_record.specs.Refusing.{Turn}
use Rattle.ir_record.specs.Worlds.{AnsweredCall}
use Rattle.ir_record_command.specs.Order.{order_of}
use Rattle.ir_record_command.specs.Plan.{Plan}
use Rattle.ir_world.specs.Sources.{origin_of, IsAnsweredFrom}

-- before the first step no world has answered
abbrev pub unasked : Guest → List (List AnsweredCall)
unasked guest = replicate (length guest.entries) []

-- the trace, the outputs and the worlds' answers of one complete run of the guest: the one by the order that the list
-- spells, or without a list some run
abbrev pub IsRecordedBy : Option (List ℕ) → Guest → ℕ → Profile → Recorded → List (List ℕ) → List (List AnsweredCall) → Type 0
IsRecordedBy (Some list) guest budget profile trace outputs answers = (order : List Turn)
    × (order_of (length guest.entries) list ≡ Some order) × IsRecordingByTurns guest budget profile order (unasked guest) trace outputs answers
IsRecordedBy None guest budget profile trace outputs answers = IsRecordingOfSome guest budget profile (unasked guest) trace outputs answers

-- the trace and the outputs are of one such run of the image's guest, whose threads were answered by random words, the
-- file's bytes and a count. Without a list a clock takes the place of the count, of which nothing is said but that the
-- answers are its own
pub record IsRecordedOf (image : List ℕ) (plan : Plan) (trace : Recorded) (outputs : List (List ℕ)) : Type 0 where
  pub guest : Guest
  pub is : guest_at image ≡ Ok guest
  pub answers : List (List AnsweredCall)
  pub recorded : IsRecordedBy plan.order guest plan.budget plan.profile trace outputs answers
  -- each thread was answered by its own sources
  pub answered : (t : ℕ) → t < length guest.entries → IsAnsweredFrom (origin_of (is_some plan.order) plan.random plan.input t) (slice_index_or answers t [])

-- a thread's line: its number, the number and the code of its end, its steps, how many events it logged
abbrev pub line_by : ℕ → ℕ → ℕ → ℕ → ℕ → List ℕ
line_by t end code steps events =
    codes "thread " ++ (decimal t ++ (codes " end " ++
    (decimal end ++ (codes " code " ++ (decimal code ++
    (codes " steps " ++ (decimal steps ++ (codes " events " ++ (decimal events ++ 10 ∷ [])))))))))

-- the line of thread t
abbrev pub recorded_thread_line : ℕ → RecordedThread → List ℕ
recorded_thread_line t r = line_by t (end_number r.end) (end_code r.end) r.steps (length r.events)

-- the lines of threads from number t on
abbrev pub recording_lines_from : ℕ → List RecordedThread → List ℕ
recording_lines_from t [] = []
recording_lines_from t (r ∷ rs) = recorded_thread_line t r ++ recording_lines_from (t + 1) rs

-- a line for each thread
abbrev pub recording_lines : Recorded → List ℕ
recording_lines trace = recording_lines_from 0 trace.threads
