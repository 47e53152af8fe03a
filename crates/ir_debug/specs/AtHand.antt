-- What is shown of the threads and objects in hand.
use Rattle.std.specs.Prelude.{◌≡◌, ◌<◌, ℕ, List, take, map, length, Some}
use Rattle.ir_image.specs.Guest.{object_words}
use Rattle.ir_thread.specs.State as thread
use Rattle.ir_runs.specs.Machine as machine
use Rattle.ir_flat.specs.Flat.{thread_of, cell_of}
use Rattle.ir_flat.specs.Room.{object_with}
use Rattle.ir_log.specs.Logging.{label_of}
use Rattle.ir_log.specs.declared.event.Event.{Event}
use Rattle.ir_trace.specs.Recorded.{recorded_thread}
use Rattle.ir_cut.specs.Positions.{EachRun, threads_of}
use Rattle.ir_weave.specs.Standing.{flat_in}
use Rattle.ir_command.specs.declared.command.Command.TheVariants as command
use Rattle.ir_command.specs.declared.command.Show.{Show}
use Rattle.ir_command.specs.declared.command.Show.TheVariants.{Registers, Memory, Object, Output, Log, Next}
use Rattle.ir_debug.specs.declared.answer.Answer.{Answer}
use Rattle.ir_text.specs.Texts.{core_text, bytes_from, memory_text, output_text, object_text, log_text, next_text}
use Rattle.ir_debug.specs.Debugging.{Debugging, IsThere, text_by}
use Rattle.ir_debug.specs.Machine.{thread_named, show_text}
use Rattle.ir_text.specs.Held.{held_by}

-- a thread in hand
abbrev pub thread_here : Debugging → ℕ → thread.ThreadState
thread_here d t = thread_of (flat_in d.desk.fitted d.state) t

-- an object in hand
abbrev pub object_here : Debugging → ℕ → machine.Object
object_here d o = object_with (cell_of (flat_in d.desk.fitted d.state) o) (held_by d.state.threads o)

-- the events of a thread in its run
abbrev pub events_of : Debugging → ℕ → List Event
events_of d t = (recorded_thread d.desk.fitted.recorded t).events

-- those that it has logged at its position
abbrev pub events_here : Debugging → ℕ → List Event
events_here d t = take (thread_here d t).events (events_of d t)

-- the text of a show by the threads and objects in hand
abbrev pub shown_here : Debugging → Show → List ℕ
shown_here d (Registers t) = core_text (thread_here d t).core
shown_here d (Memory t address size) =
    memory_text address (bytes_from d.desk.fitted.guest.code (thread_here d t).core.memory size address)
shown_here d (Object o) = object_text (threads_of d.desk.fitted) (object_words d.desk.fitted.guest) (object_here d o)
shown_here d (Output t) = output_text (thread_here d t).output
shown_here d (Log t) = log_text (map label_of (events_here d t)) (length (events_of d t))
shown_here d (Next t) = next_text d.desk.fitted.guest.code (thread_here d t)

-- the text of an answer by them
abbrev pub text_here : Debugging → Answer → List ℕ
text_here d answer = text_by (shown_here d) d.desk answer

-- at the cut a show has the text that the small machine gives, whichever run it holds
abbrev pub ShowsHere : Type 0
ShowsHere = (d : Debugging) (show : Show) → IsThere d → ((t : ℕ) → thread_named (command.Show show) ≡ Some t → t < threads_of d.desk.fitted)
    → EachRun d.desk.fitted (λ run. shown_here d show ≡ show_text run d.desk show)
