use Rattle.ir_arguments.proofs.Cuts.{part_without_cut}
use Rattle.ir_arguments.proofs.texts.first_part.Goals as goal

pub returns-in-None-clause-parts : goal.returns-in-None-clause-parts
returns-in-None-clause-parts c = part_without_cut c.args.mark c.args.text.now c.in-None.ensures.parts
