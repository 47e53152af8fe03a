use Rattle.std.proofs.Common.{arith}
use Rattle.std.proofs.lemmas.Str.Pattern.{strip_prefix_char}
use Rattle.ir_arguments.proofs.conditions.after_mark.Goals as goal

pub returns : goal.returns
returns c = strip_prefix_char 33 c.args.text.now c.strip_prefix.result c.strip_prefix.ensures.cases (omega arith)
