-- What a step asks of which an event is logged.
use Rattle.std.specs.Prelude.{◌≡◌, ◌⊎◌, Option, Some, None}
use Rattle.ir_runs.specs.declared.access.Access.TheVariants.{Reading, Writing}
use Rattle.ir_thread.specs.declared.ask.Ask.{Ask}
use Rattle.ir_thread.specs.declared.ask.Ask.TheVariants as ask
use Rattle.ir_log.specs.declared.event.Event.{Event}
use Rattle.ir_log.specs.declared.event.Event.TheVariants.{Answer, Read, Write, Try}

-- what a thread asks for at the step that the event is logged of, where it isn't a try that got in
abbrev pub ask_of : Event → Ask
ask_of (Answer kind value) = ask.Env kind
ask_of (Read object version) = ask.Enter object Reading
ask_of (Write object version readers) = ask.Enter object Writing
ask_of (Try object) = ask.Try object

-- the try that the event may be logged of, where it got in
abbrev pub try_of : Event → Option Ask
try_of (Write object version readers) = Some (ask.Try object)
try_of _ = None

-- the event may be logged of a step that asks so: the kinds agree, or the objects and what they are entered for; a try that got in is
-- logged as an entry for writing
abbrev pub SuitsEvent : Ask → Event → Type 0
SuitsEvent asked event = (ask_of event ≡ asked) ⊎ (try_of event ≡ Some asked)
