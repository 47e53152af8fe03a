use Rattle.std.proofs.Common.{false, refl, sym}
use Rattle.ir_thread.specs.declared.ask.Ask.TheVariants as asks
use Rattle.ir_shrink.proofs.Steps.{Acted, acted_unanswered, acted_is_turn, try_can_be_refused}
use Rattle.ir_shrink.proofs.mover.Mover.try_turn.Given.{Over}
use Rattle.ir_shrink.proofs.mover.Mover.try_turn.Goals as goal

pub enter_or_pass-requires-clause-can : goal.enter_or_pass-requires-clause-can
enter_or_pass-requires-clause-can g c = try_can_be_refused c.args.self.now.flat c.args.t c.args.object (asks.Try c.args.object) (sym c.requires.asked) refl

acted : (g : Over) (c : goal.After-enter_or_pass g) → Acted g.W.World.answers g.W.World.broken false c.args.t c.args.self.now
    (record c.args.self.now { flat = c.enter_or_pass.new.flat })
acted g c = acted_unanswered g.W.World.answers g.W.World.broken false c.args.t c.enter_or_pass.result (asks.Try c.args.object) c.args.self.now
    (record c.args.self.now { flat = c.enter_or_pass.new.flat }) c.requires.ready c.enter_or_pass.ensures c.requires.asked tt refl refl

pub returns-clause-turn : goal.returns-clause-turn
returns-clause-turn g c = acted_is_turn g.W.World.answers g.W.World.broken false c.args.t c.args.self.now
    (record c.args.self.now { flat = c.enter_or_pass.new.flat }) c.requires.thread (acted g c)

pub returns-clause-ready : goal.returns-clause-ready
returns-clause-ready g c = (acted g c).ready
