use Rattle.std.proofs.Common.{true, refl}
use Rattle.ir_shrink.proofs.Steps.{own_turn_is_turn}
use Rattle.ir_shrink.proofs.mover.Mover.own_turn.Goals as goal

pub returns-clause-turn : goal.returns-clause-turn
returns-clause-turn g c = λ refused. (own_turn_is_turn g.W.World.answers g.W.World.broken c.go.result refused c.args.t c.args.asked c.args.self.now
    (record c.args.self.now { flat = c.go.new.flat }) c.requires.ready c.requires.thread c.requires.asked c.requires.own (c.go.ensures refused) refl refl).0

pub returns-clause-ready : goal.returns-clause-ready
returns-clause-ready g c = (own_turn_is_turn g.W.World.answers g.W.World.broken c.go.result true c.args.t c.args.asked c.args.self.now
    (record c.args.self.now { flat = c.go.new.flat }) c.requires.ready c.requires.thread c.requires.asked c.requires.own (c.go.ensures true) refl refl).1
