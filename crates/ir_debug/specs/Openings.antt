-- What was opened, as the small machine's.
use Rattle.ir_debug.specs.Machine.{Opening}
use Rattle.ir_debug.specs.Machine as opening
use Rattle.ir_debug.specs.declared.opening.Opened.{Opened}
use Rattle.ir_debug.specs.declared.opening.Opened.TheVariants as opened

-- with the small machine in the debugger's place
abbrev pub opening_of : Opened → Opening
opening_of (opened.ImageRefused error) = opening.ImageRefused error
opening_of (opened.TraceRefused error) = opening.TraceRefused error
opening_of (opened.Unfit verdict) = opening.Unfit verdict
opening_of (opened.Ready debugger) = opening.Ready debugger.desk
