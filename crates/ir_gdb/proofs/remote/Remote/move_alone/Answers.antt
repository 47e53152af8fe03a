use Rattle.std.proofs.lemmas.Result.{on_ok_weaker}
use Rattle.ir_gdb.proofs.Moving.{moves_alone_and_settles}
use Rattle.ir_gdb.proofs.remote.Remote.move_alone.Goals as goal

pub returns-clause-ok : goal.returns-clause-ok
returns-clause-ok g c =
    on_ok_weaker c.settle.result
    (moves_alone_and_settles c.args.self.now.stub c.stop_of.new.self.stub c.settle.new.self.stub c.args.thread c.args.motion c.direction_of-direction.result
    c.in_ok-to.to c.in_ok-cut.cut c.stop_of.ensures.stub c.direction_of-direction.ensures c.in_ok-to.ensures.stops c.in_ok-cut.ensures.comes)
    c.settle.ensures.ok
