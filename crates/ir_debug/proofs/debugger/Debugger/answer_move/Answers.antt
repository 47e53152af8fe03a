use Rattle.std.proofs.Common.{◌∙◌}
use Rattle.ir_command.specs.declared.command.Command.TheVariants as command
use Rattle.ir_debug.proofs.CarriedOut.{refusal_after_move}
use Rattle.ir_debug.proofs.debugger.Debugger.answer_move.Goals as goal

pub returns-in-Ok-clause-last : goal.returns-in-Ok-clause-last
returns-in-Ok-clause-last g c =
    let led = c.in-Ok.ensures.ok in
    refusal_after_move c.args.self.now.desk c.carry_out.new.self.desk led.0 (command.Move c.args.to) led.2 ∙ c.requires
