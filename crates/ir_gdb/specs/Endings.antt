-- Ends of threads, of which gdb is told as signals: the signals that people know, and the words that the list of threads has.
use Rattle.std.specs.Prelude.{◌==◌, ◌&&◌, not, ℕ, zero, suc, Bool, true, false, List, ◌++◌, codes, decimal, Option, Some, None, option_map, if◌then◌else◌}
use Rattle.ir_thread.specs.declared.end.End.{End}
use Rattle.ir_thread.specs.declared.end.End.TheVariants as end
use Rattle.ir_trace.specs.Recorded.{recorded_thread}
use Rattle.ir_fit.specs.Fit.{FittedTrace}
use Rattle.ir_cut.specs.Positions.{cut_of, threads_of, last_of}
use Rattle.ir_packet.specs.declared.reply.Reason.{Reason}
use Rattle.ir_packet.specs.declared.reply.Reason.TheVariants as reason
use Rattle.ir_packet.specs.declared.reply.Signal.{Signal}
use Rattle.ir_packet.specs.declared.reply.Signal.TheVariants as signal
use Rattle.ir_gdb.specs.declared.stopped.Told.{Told}

-- ---- the table of ends

-- the call END: code 0 is a good end, and no other is
abbrev pub signal_of_code : ℕ → Option Signal
signal_of_code zero = None
signal_of_code (suc n) = Some signal.Terminated

-- the signal of each end. EBREAK is what a failed assertion makes; gdb would take SIGTRAP for a step that is done. All that a call refuses is SIGSYS
abbrev pub signal_of : End → Option Signal
signal_of (end.Exit code) = signal_of_code code
signal_of end.Breakpoint = Some signal.Aborted
signal_of end.IllegalWord = Some signal.Illegal
signal_of end.TargetMisaligned = Some signal.Misaligned
signal_of end.OutsideCode = Some signal.Outside
signal_of end.BadLoad = Some signal.Outside
signal_of end.BadStore = Some signal.Outside
signal_of end.UnknownCall = Some signal.BadCall
signal_of end.NoSuchObject = Some signal.BadCall
signal_of end.EntryOutOfOrder = Some signal.BadCall
signal_of end.NotHeld = Some signal.BadCall
signal_of end.OutputFull = Some signal.TooLarge
signal_of end.BudgetSpent = Some signal.TooLong
signal_of end.LogFull = Some signal.TooLarge

abbrev pub code_text : ℕ → List ℕ
code_text code = if code == 0 then codes " done" else codes " ended: code " ++ decimal code

-- an end in words
unfoldable pub words_of_end : End → List ℕ
words_of_end (end.Exit code) = code_text code
words_of_end end.Breakpoint = codes " ended: EBREAK"
words_of_end end.IllegalWord = codes " ended: no instruction"
words_of_end end.TargetMisaligned = codes " ended: misaligned jump"
words_of_end end.OutsideCode = codes " ended: outside the code"
words_of_end end.BadLoad = codes " ended: bad load"
words_of_end end.BadStore = codes " ended: bad store"
words_of_end end.UnknownCall = codes " ended: unknown call"
words_of_end end.NoSuchObject = codes " ended: no such object"
words_of_end end.EntryOutOfOrder = codes " ended: entry out of order"
words_of_end end.NotHeld = codes " ended: object not held"
words_of_end end.OutputFull = codes " ended: too much output"
words_of_end end.BudgetSpent = codes " ended: budget spent"
words_of_end end.LogFull = codes " ended: too many events"

-- ---- which end a move tells

-- how a thread ended
abbrev pub end_of_thread : FittedTrace → ℕ → End
end_of_thread f t = (recorded_thread f.recorded t).end

abbrev pub told_ended : ℕ → Signal → Told
told_ended t how = record { interrupted = false; thread = t; reason = reason.Ended how }

-- a thread's end, if it is a bad one
abbrev pub bad_end : FittedTrace → ℕ → Option Told
bad_end f t = option_map (told_ended t) (signal_of (end_of_thread f t))

-- whether a move from one cut to another brings a thread to its last position
abbrev pub comes_to_end : FittedTrace → List ℕ → List ℕ → ℕ → Bool
comes_to_end f from to t = not (cut_of from t == last_of f t) && (cut_of to t == last_of f t)

-- the bad end of a thread that comes to it
abbrev pub own_end : FittedTrace → List ℕ → List ℕ → ℕ → Option Told
own_end f from to t = if comes_to_end f from to t then bad_end f t else None

-- whether each of the first n threads is at its last position
unfoldable pub are_ended : FittedTrace → List ℕ → ℕ → Bool
are_ended f cut zero = true
are_ended f cut (suc t) = are_ended f cut t && (cut_of cut t == last_of f t)

-- whether a cut is the end of the recording
abbrev pub is_end_of_thread : FittedTrace → List ℕ → Bool
is_end_of_thread f cut = are_ended f cut (threads_of f)

abbrev pub or_told : Option Told → Option Told → Option Told
or_told None next = next
or_told (Some told) next = Some told

-- the first bad end of the first n threads
unfoldable pub first_bad_end : FittedTrace → ℕ → Option Told
first_bad_end f zero = None
first_bad_end f (suc t) = or_told (first_bad_end f t) (bad_end f t)

-- that of all, where a move that runs out of history comes to the end of the recording
abbrev pub last_end : FittedTrace → List ℕ → List ℕ → Bool → Option Told
last_end f from to out = if out && (is_end_of_thread f to && not (is_end_of_thread f from)) then first_bad_end f (threads_of f) else None

-- the bad end that a move tells: of the thread that it stops, or else the first
abbrev pub ended : FittedTrace → List ℕ → List ℕ → ℕ → Bool → Option Told
ended f from to t out = or_told (own_end f from to t) (last_end f from to out)

-- whether a stop says that there is no more history
abbrev pub is_thread_over : Reason → Bool
is_thread_over reason.Step = false
is_thread_over reason.SoftwareBreak = false
is_thread_over reason.HardwareBreak = false
is_thread_over (reason.Watch address) = false
is_thread_over reason.End = true
is_thread_over reason.Begin = false
is_thread_over (reason.Ended how) = false
is_thread_over reason.Waits = false

abbrev pub told_or : Option Told → Told → Told
told_or None told = told
told_or (Some bad) told = bad
