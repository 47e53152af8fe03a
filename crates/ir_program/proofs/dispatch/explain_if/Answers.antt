use Rattle.ir_commands.proofs.CallerLemmas.{unchanged_goes_on}
use Rattle.ir_program.proofs.dispatch.explain_if.Goals as goal

pub returns-in_default-clause-grows : goal.returns-in_default-clause-grows
returns-in_default-clause-grows g c = unchanged_goes_on _

pub returns-then-failed-clause-grows : goal.returns-then-failed-clause-grows
returns-then-failed-clause-grows g c = unchanged_goes_on _
