use Rattle.ir_arguments.proofs.Apps.{bare_made}
use Rattle.ir_arguments.proofs.subcommands.bare_command.Goals as goal

pub returns : goal.returns
returns c = bare_made c.new.result c.about.result c.after_help.result _ _ _ c.new.ensures.app c.about.ensures c.after_help.ensures
