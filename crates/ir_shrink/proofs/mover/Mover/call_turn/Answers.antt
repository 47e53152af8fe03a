use Rattle.std.proofs.Common.{Bool, true, refl, sym}
use Rattle.ir_shrink.proofs.Steps.{Acted, acted_answered, acted_is_turn, suited_call_can_step, call_tries_nothing}
use Rattle.ir_shrink.proofs.mover.Mover.call_turn.Given.{Over}
use Rattle.ir_shrink.proofs.mover.Mover.call_turn.Goals as goal

pub call-requires-clause-can : goal.call-requires-clause-can
call-requires-clause-can g c = suited_call_can_step c.args.self.now.flat c.args.t c.in_ok-value.value c.args.kind (sym c.requires.asked) c.in_ok-value.ensures.fits

pub call-requires-clause-tries : goal.call-requires-clause-tries
call-requires-clause-tries g c = λ refused. call_tries_nothing c.args.self.now.flat c.args.t c.in_ok-value.value c.args.kind refused (sym c.requires.asked)

acted : (g : Over) (c : goal.After-call g) (refused : Bool) → Acted g.W.World.answers g.W.World.broken refused c.args.t c.args.self.now
    (record c.args.self.now { flat = c.call.new.flat; worlds = c.answer_to.new.worlds })
acted g c refused = acted_answered g.W.World.answers g.W.World.broken refused c.args.t c.in_ok-value.value c.args.kind c.args.self.now
    (record c.args.self.now { flat = c.call.new.flat; worlds = c.answer_to.new.worlds }) c.requires.ready c.requires.thread (c.call.ensures refused)
    (sym c.requires.asked) refl c.in_ok-value.ensures.gained c.in_ok-value.ensures.each c.in_ok-value.ensures.works

pub returns-clause-turn : goal.returns-clause-turn
returns-clause-turn g c = λ refused. acted_is_turn g.W.World.answers g.W.World.broken refused c.args.t c.args.self.now
    (record c.args.self.now { flat = c.call.new.flat; worlds = c.answer_to.new.worlds }) c.requires.thread (acted g c refused)

pub returns-clause-ready : goal.returns-clause-ready
returns-clause-ready g c = (acted g c true).ready
