use Rattle.std.proofs.Common.{subst}
use Rattle.ir_commands.specs.Exploring.{IsInput}
use Rattle.ir_commands.proofs.record.Beside.of.Goals as goal

pub returns-clause-input : goal.returns-clause-input
returns-clause-input g c = subst (λ f. IsInput (g.D.Folder.bytes_at c.args.folder.now) f c.in-Some.input.items) c.paths-paths.ensures.input c.in-Some.ensures.input
