use Rattle.std.proofs.Common.{min}
use Rattle.std.proofs.lemmas.Result.{IfOk-weaker}
use Rattle.ir_cut.specs.Searching.{IsLeastCut, IsGreatestCut}
use Rattle.ir_cut.specs.Positions.{last_of}
use Rattle.ir_debug.proofs.Leading.{ToPositionInEachRun, least_leads_onward, greatest_leads_back}
use Rattle.ir_debug.proofs.destinations.to_position.Goals as goal

pub returns-then-position-clause-leads : goal.returns-then-position-clause-leads
returns-then-position-clause-leads c =
    IfOk-weaker c.least.result (IsLeastCut c.args.fitted.now c.args.at.now c.args.t c.min-position.result)
    (ToPositionInEachRun c.args.fitted.now c.args.at.now c.args.t (min c.args.position (last_of c.args.fitted.now c.args.t)))
    (λ to. least_leads_onward c.args.fitted.now c.args.at.now to c.args.t c.min-position.result c.args.position c.last_position.result
    c.position.result c.min-position.ensures c.last_position.ensures c.position.ensures c.if-position.true) c.least.ensures.least

pub returns-else-position-clause-leads : goal.returns-else-position-clause-leads
returns-else-position-clause-leads c =
    IfOk-weaker c.greatest.result (IsGreatestCut c.args.fitted.now c.args.at.now c.args.t c.min-position.result)
    (ToPositionInEachRun c.args.fitted.now c.args.at.now c.args.t (min c.args.position (last_of c.args.fitted.now c.args.t)))
    (λ to. greatest_leads_back c.args.fitted.now c.args.at.now to c.args.t c.min-position.result c.args.position c.last_position.result
    c.position.result c.min-position.ensures c.last_position.ensures c.position.ensures c.if-position.false) c.greatest.ensures.greatest
