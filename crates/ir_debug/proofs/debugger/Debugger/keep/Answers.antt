use Rattle.std.proofs.Common.{◌∙◌}
use Rattle.ir_command.specs.declared.command.Command.TheVariants as command
use Rattle.ir_command.specs.declared.command.Keeping.TheVariants as keeping
use Rattle.ir_debug.proofs.CarriedOut.{refusal_after_spoken}
use Rattle.ir_debug.proofs.debugger.Debugger.keep.Goals as goal

pub keep_here-requires : goal.keep_here-requires
keep_here-requires g c =
    refusal_after_spoken c.args.self.now.desk c.bring_here.new.self.desk (command.Keeping keeping.Keep) c.in_ok-bring_here.ensures.desk ∙ c.requires
