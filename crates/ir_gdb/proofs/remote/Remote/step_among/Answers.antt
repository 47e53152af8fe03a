use Rattle.std.proofs.lemmas.Result.{on_ok_weaker}
use Rattle.ir_gdb.proofs.Moving.{steps_among_others, steps_among_alone}
use Rattle.ir_gdb.proofs.remote.Remote.step_among.Goals as goal

pub returns-then-moves_other-clause-ok : goal.returns-then-moves_other-clause-ok
returns-then-moves_other-clause-ok g c =
    on_ok_weaker c.settle_first.result
    (steps_among_others c.args.self.now.stub c.stop_of.new.self.stub c.settle_first.new.self.stub c.args.thread c.args.motion c.direction_of-direction.result
    c.in_ok-to.to c.in_ok-cut.cut c.stop_of.ensures.stub c.direction_of-direction.ensures c.in_ok-to.ensures.stops c.in_ok-cut.ensures.comes
    c.if-moves_other.ensures)
    c.settle_first.ensures.ok

pub returns-clause-ok : goal.returns-clause-ok
returns-clause-ok g c =
    on_ok_weaker c.settle.result
    (steps_among_alone c.args.self.now.stub c.stop_of.new.self.stub c.settle.new.self.stub c.args.thread c.args.motion c.direction_of-direction.result
    c.in_ok-to.to c.in_ok-cut.cut c.stop_of.ensures.stub c.direction_of-direction.ensures c.in_ok-to.ensures.stops c.in_ok-cut.ensures.comes
    c.if-moves_other.ensures)
    c.settle.ensures.ok
