use Rattle.std.proofs.Common.{◌∙◌, sym}
use Rattle.ir_command.specs.declared.command.Command.TheVariants as command
use Rattle.ir_debug.proofs.Passed.{named_thread_exists}
use Rattle.ir_debug.proofs.answering.put_moved.Goals as goal

pub put_stopped-requires-clause-thread : goal.put_stopped-requires-clause-thread
put_stopped-requires-clause-thread c = named_thread_exists c.args.debugger.now.desk (command.Move c.args.asked) c.in-Some.thread c.requires.passed
    (sym c.thread_named.ensures ∙ c.in-Some.is)
