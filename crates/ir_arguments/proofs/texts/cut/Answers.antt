use Rattle.ir_arguments.proofs.Cuts.{split_once_cuts}
use Rattle.ir_arguments.proofs.texts.cut.Goals as goal

pub returns-clause-parts : goal.returns-clause-parts
returns-clause-parts c = split_once_cuts c.args.mark c.args.text.now c.split_once.result c.split_once.ensures.cases c.requires
