use Rattle.ir_arguments.proofs.Rules.{option_made}
use Rattle.ir_arguments.proofs.forms.option_arg.Goals as goal

pub returns : goal.returns
returns c = option_made c.new.result c.long.result c.value_name.result c.help.result c.args.name c.args.value c.args.help c.new.ensures.rule
    c.new.ensures.optional.1 c.long.ensures c.value_name.ensures c.help.ensures
