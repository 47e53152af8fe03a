use Rattle.std.proofs.Common.{◌∙◌, sym}
use Rattle.ir_commands.proofs.Counted.{refused_has_counted}
use Rattle.ir_commands.proofs.within.check_counted.Goals as goal

pub returns-in-Refused-clause-has : goal.returns-in-Refused-clause-has
returns-in-Refused-clause-has g c =
    refused_has_counted c.in-Err.why c.args.image.now c.args.explore.now c.args.counted.now c.in-Err.ensures.refused (sym c.status.ensures ∙ c.in-Refused.is)
