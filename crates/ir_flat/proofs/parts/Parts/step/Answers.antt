use Rattle.ir_flat.proofs.Keeps.{entry_ask_fields_fit, leave_ask_fields_fit, leave_ask_can_leave}
use Rattle.ir_flat.proofs.parts.Parts.step.Goals as goal

pub enter-requires-clause-fits : goal.enter-requires-clause-fits
enter-requires-clause-fits c = entry_ask_fields_fit _ c.args.t c.args.asked c.in-Enter.o c.in-Enter.access c.requires.flat c.requires.thread
    c.requires.permits c.in-Enter.is

pub leave-requires-clause-inside : goal.leave-requires-clause-inside
leave-requires-clause-inside c = leave_ask_can_leave _ c.args.t c.args.asked c.in-Leave.o c.in-Leave.access c.requires.flat c.requires.thread
    c.requires.permits c.in-Leave.is

pub leave-requires-clause-fits : goal.leave-requires-clause-fits
leave-requires-clause-fits c = leave_ask_fields_fit _ c.args.t c.args.asked c.in-Leave.o c.in-Leave.access c.requires.flat c.requires.thread
    c.requires.permits c.in-Leave.is
