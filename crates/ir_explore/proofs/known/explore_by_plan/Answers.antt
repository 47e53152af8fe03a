use Rattle.std.proofs.Common.{subst}
use Rattle.ir_outcomes.specs.Explored.{IsExplored}
use Rattle.ir_explore.specs.Plan.{ExplorePlan}
use Rattle.ir_explore.proofs.Printed.{explored_is_known}
use Rattle.ir_explore.proofs.known.explore_by_plan.Goals as goal

pub returns-clause-known : goal.returns-clause-known
returns-clause-known g c =
    let plan = c.args.plan.now in
    let e = c.in_ok-explored.explored in
    explored_is_known c.args.image.now plan e
    (subst (λ z. IsExplored z plan.bounds plan.switches e) c.setup-setup.ensures
    (subst (λ (z : ExplorePlan). IsExplored c.setup-setup.result z.bounds z.switches e) c.plan.view_is c.in_ok-explored.ensures.explored))
