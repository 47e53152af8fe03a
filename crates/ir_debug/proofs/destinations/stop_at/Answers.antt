use Rattle.std.proofs.lemmas.Result.{IfOk-weaker}
use Rattle.ir_cut.specs.Searching.{IsLeastCut, IsGreatestCut}
use Rattle.ir_debug.proofs.Leading.{StopsInEachRun, forward_stop_at_least, backward_stop_greatest}
use Rattle.ir_debug.proofs.destinations.stop_at.Goals as goal

pub returns-in-Forwards-clause-stops : goal.returns-in-Forwards-clause-stops
returns-in-Forwards-clause-stops c =
    IfOk-weaker c.least.result (IsLeastCut c.args.fitted.now c.args.at.now c.args.t c.args.position)
    (StopsInEachRun c.args.fitted.now c.args.at.now c.args.t c.args.direction c.args.position)
    (λ to. forward_stop_at_least c.args.fitted.now c.args.at.now to c.args.t c.args.position c.args.direction c.in-Forwards.is) c.least.ensures.least

pub returns-in-Backwards-clause-stops : goal.returns-in-Backwards-clause-stops
returns-in-Backwards-clause-stops c =
    IfOk-weaker c.greatest.result (IsGreatestCut c.args.fitted.now c.args.at.now c.args.t c.args.position)
    (StopsInEachRun c.args.fitted.now c.args.at.now c.args.t c.args.direction c.args.position)
    (λ to. backward_stop_greatest c.args.fitted.now c.args.at.now to c.args.t c.args.position c.args.direction c.in-Backwards.is) c.greatest.ensures.greatest
