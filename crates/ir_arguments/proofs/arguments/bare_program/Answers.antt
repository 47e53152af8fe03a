use Rattle.ir_arguments.proofs.Apps.{bare_with_version}
use Rattle.ir_arguments.proofs.arguments.bare_program.Goals as goal

pub returns : goal.returns
returns c = bare_with_version c.new.result c.version.result c.about.result c.after_help.result _ _ _ _ c.new.ensures.app c.version.ensures
    c.about.ensures c.after_help.ensures
