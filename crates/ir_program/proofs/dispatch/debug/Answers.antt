use Rattle.ir_program.proofs.Held.{holds_session}
use Rattle.ir_program.proofs.dispatch.debug.Goals as goal

pub returns : goal.returns
returns g c = holds_session (g.I.Source.left c.args.input) c.debug_files.ensures c.new-input.ensures.left
