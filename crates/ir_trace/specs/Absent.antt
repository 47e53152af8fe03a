-- A thread that is none of the guest's.
use Rattle.std.specs.Prelude.{[]}
use Rattle.ir_thread.specs.declared.end.End.TheVariants.{Breakpoint}
use Rattle.ir_trace.specs.Recorded.{RecordedThread}

-- a thread that is none of the guest's: it took no step and logged nothing, and counts as one that has ended
abbrev pub absent : RecordedThread
absent = record { steps = 0; end = Breakpoint; events = [] }
