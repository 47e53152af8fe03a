-- The label that an event denotes.
use Rattle.ir_runs.specs.Machine as machine
use Rattle.ir_runs.specs.declared.access.Access.TheVariants.{Reading, Writing}
use Rattle.ir_log.specs.declared.event.Event.{Event}
use Rattle.ir_log.specs.declared.event.Event.TheVariants.{Answer, Read, Write, Try}

-- the label of the step that the event is logged of: `Read` and `Write` of an entry, `Try` of a refused try; an entry for reading has 0 leaves
abbrev pub label_of : Event → machine.Label
label_of (Answer kind value) = machine.Answer kind value
label_of (Read object version) = machine.EnteredAt object Reading version 0
label_of (Write object version readers) = machine.EnteredAt object Writing version readers
label_of (Try object) = machine.FailedTry object
