use Rattle.std.proofs.Common.{subst}
use Rattle.ir_fit.specs.Fit.{FittedTrace}
use Rattle.ir_fit.specs.Placed.{IsListing, all_events_left}
use Rattle.ir_fit.specs.Listed.{OnlyLeaves, AllLeaves}
use Rattle.ir_fit.proofs.Found.{listed_only_leaves, listed_all_leaves}
use Rattle.ir_fit.proofs.fitted.Fitted.leaves_at.Goals as goal

pub returns-clause-only : goal.returns-clause-only
returns-clause-only c =
    let inside = c.self.inside in
    let f : FittedTrace = record { guest = inside.image; recorded = inside.trace } in
    subst (λ g. OnlyLeaves g c.args.object c.args.access c.args.version c.at.result.now) c.self.view_is
    (listed_only_leaves f inside.left
    (subst (λ ps. IsListing (all_events_left ps) inside.left) c.self.invariant.1 c.self.invariant.3) c.args.object c.args.access c.args.version c.at.result.now
    c.at.ensures.emitted)

pub returns-clause-all : goal.returns-clause-all
returns-clause-all c =
    let inside = c.self.inside in
    let f : FittedTrace = record { guest = inside.image; recorded = inside.trace } in
    subst (λ g. AllLeaves g c.args.object c.args.access c.args.version c.at.result.now) c.self.view_is
    (listed_all_leaves f inside.left
    (subst (λ ps. IsListing (all_events_left ps) inside.left) c.self.invariant.1 c.self.invariant.3) c.args.object c.args.access c.args.version c.at.result.now
    c.at.ensures.all)
