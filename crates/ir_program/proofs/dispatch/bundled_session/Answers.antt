use Rattle.std.proofs.Common.{ap}
use Rattle.ir_program.proofs.Held.{holds_bundle}
use Rattle.ir_program.proofs.dispatch.bundled_session.Goals as goal

pub returns : goal.returns
returns g c = holds_bundle (g.I.Source.left c.args.input) c.bundle.ensures.ended c.bundle.ensures.stopped
    (rw c.new-input.ensures.goes (ap g.I.Source.left c.new-input.ensures.reader))
