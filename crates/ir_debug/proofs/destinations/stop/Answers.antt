use Rattle.std.proofs.lemmas.Result.{IfOk-weaker}
use Rattle.ir_debug.specs.Machine.{stop_of}
use Rattle.ir_debug.proofs.Leading.{StopsInEachRun, stop_at_equal_position}
use Rattle.ir_debug.proofs.destinations.stop.Goals as goal

pub returns-clause-stops : goal.returns-clause-stops
returns-clause-stops c =
    IfOk-weaker c.stop_at.result (StopsInEachRun c.args.fitted.now c.args.at.now c.args.t c.args.direction c.stop_of-position.result)
    (StopsInEachRun c.args.fitted.now c.args.at.now c.args.t c.args.direction (stop_of c.args.fitted.now c.args.t c.args.direction c.args.hit))
    (λ to. stop_at_equal_position c.args.fitted.now c.args.at.now to c.args.t _ _ c.args.direction c.stop_of-position.ensures) c.stop_at.ensures.stops
