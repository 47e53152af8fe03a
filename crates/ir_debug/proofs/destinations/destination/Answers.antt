use Rattle.std.proofs.lemmas.Result.{IfOk-weaker}
use Rattle.ir_cut.specs.Searching.{IsLeastCut, IsGreatestCut}
use Rattle.ir_debug.proofs.Leading.{LeadsInEachRun, step_leads_to_least_cut, back_leads_greatest}
use Rattle.ir_debug.proofs.destinations.destination.Goals as goal

pub returns-in-Step-clause-leads : goal.returns-in-Step-clause-leads
returns-in-Step-clause-leads c =
    IfOk-weaker c.least.result (IsLeastCut c.args.fitted.now c.args.at.now c.in-Step.thread c.min.result)
    (LeadsInEachRun c.args.fitted.now c.args.at.now c.args.to)
    (λ to least. step_leads_to_least_cut c.args.fitted.now c.args.at.now to c.args.to c.in-Step.thread c.in-Step.count c.min.result
    c.saturating_add-position.result c.last_position.result c.position.result c.in-Step.is c.position.ensures
    c.saturating_add-position.ensures c.last_position.type_inv c.last_position.ensures c.min.ensures least) c.least.ensures.least

pub returns-in-Back-clause-leads : goal.returns-in-Back-clause-leads
returns-in-Back-clause-leads c =
    IfOk-weaker c.greatest.result (IsGreatestCut c.args.fitted.now c.args.at.now c.in-Back.thread c.saturating_sub-position.result)
    (LeadsInEachRun c.args.fitted.now c.args.at.now c.args.to)
    (λ to greatest. back_leads_greatest c.args.fitted.now c.args.at.now to c.args.to c.in-Back.thread c.in-Back.count
    c.saturating_sub-position.result c.position-in-Back.result c.in-Back.is c.position-in-Back.ensures
    c.saturating_sub-position.ensures greatest) c.greatest.ensures.greatest
