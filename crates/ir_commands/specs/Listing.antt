-- A trace in lines.
use Rattle.std.specs.Prelude.{ℕ, ◌+◌, List, [], ◌∷◌, ◌++◌, codes, decimal, length, map, unwrap_or, Result, Ok, Err}
use Rattle.ir_thread.specs.declared.profile.Profile.{Profile}
use Rattle.ir_thread.specs.declared.profile.Profile.TheVariants.{One, Two}
use Rattle.ir_log.specs.Logging.{label_of}
use Rattle.ir_trace.specs.Recorded.{RecordedThread, Recorded, trace_fault_number}
use Rattle.ir_trace.specs.declared.trace_err.TraceErr.{TraceErr}
use Rattle.ir_text.specs.Texts.{log_text}
use Rattle.ir_past.specs.Answers.{refused_line}
use Rattle.ir_record_command.specs.Recording.{recorded_thread_line}
use Rattle.ir_files.specs.declared.exit_status.ExitStatus.{ExitStatus}
use Rattle.ir_files.specs.declared.exit_status.ExitStatus.TheVariants as status

-- the number of each profile
abbrev pub profile_number : Profile → ℕ
profile_number One = 1
profile_number Two = 2

-- how many threads and objects, the budget and the profile
abbrev pub header_line : ℕ → ℕ → ℕ → Profile → List ℕ
header_line threads objects budget profile =
    codes "threads " ++ (decimal threads ++ (codes " objects " ++ (decimal objects ++ (codes " budget " ++ (decimal budget
    ++ (codes " profile " ++ (decimal (profile_number profile) ++ 10 ∷ [])))))))

-- the line of thread t as its recording prints it, and all of its events as the debugger shows a log
abbrev pub thread_listing : ℕ → RecordedThread → List ℕ
thread_listing t r = recorded_thread_line t r ++ log_text (map label_of r.events) (length r.events)

-- the same of the threads from number t on
unfoldable pub threads_listing : ℕ → List RecordedThread → List ℕ
threads_listing t [] = []
threads_listing t (r ∷ rs) = thread_listing t r ++ threads_listing (t + 1) rs

-- the lines of a trace
abbrev pub listing : Recorded → List ℕ
listing r = header_line (length r.threads) r.objects r.budget r.profile ++ threads_listing 0 r.threads

-- what is written of the bytes of a trace: its lines, or the line that refuses it
abbrev pub shown_trace : Result Recorded TraceErr → List ℕ
shown_trace (Ok r) = listing r
shown_trace (Err e) = refused_line (unwrap_or (trace_fault_number e) 0)

-- and the exit status
abbrev pub listing_status : Result Recorded TraceErr → ExitStatus
listing_status (Ok r) = status.Done
listing_status (Err e) = status.Refused
