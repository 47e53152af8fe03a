use Rattle.std.proofs.Common.{refl}
use Rattle.ir_arguments.proofs.Rules.{pair_made}
use Rattle.ir_arguments.proofs.forms.event_arg.Goals as goal

pub returns : goal.returns
returns c = pair_made c.new.result c.long.result c.num_args.result c.value_names.result c.help.result _ _ _ c.new.ensures.rule
    c.new.ensures.optional.1 c.long.ensures c.num_args.ensures c.value_names.ensures c.help.ensures refl
