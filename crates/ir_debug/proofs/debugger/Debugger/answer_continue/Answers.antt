use Rattle.std.proofs.Common.{◌<◌, refl, sym, subst}
use Rattle.ir_command.specs.declared.command.Command.TheVariants as command
use Rattle.ir_cut.specs.Positions.{threads_of}
use Rattle.ir_debug.specs.Machine.{Desk}
use Rattle.ir_debug.proofs.Passed.{named_thread_exists}
use Rattle.ir_debug.proofs.debugger.Debugger.answer_continue.Goals as goal

pub returns-in-Ok-clause-last : goal.returns-in-Ok-clause-last
returns-in-Ok-clause-last g c =
    let led = c.in-Ok.ensures.ok in
    subst (λ (d : Desk). c.args.thread < threads_of d.fitted) (sym led.2)
    (named_thread_exists c.args.self.now.desk (command.Continue c.args.thread c.args.direction) c.args.thread c.requires refl)
