use Rattle.std.proofs.Common.{subst}
use Rattle.ir_fit.specs.Fit.{FittedTrace}
use Rattle.ir_fit.specs.Placed.{IsListing, all_entered}
use Rattle.ir_fit.specs.Listed.{OnlyEntries, AllEntries}
use Rattle.ir_fit.proofs.Found.{listed_only_entries, listed_all_entries}
use Rattle.ir_fit.proofs.fitted.Fitted.entries_at.Goals as goal

pub returns-clause-only : goal.returns-clause-only
returns-clause-only c =
    let inside = c.self.inside in
    let f : FittedTrace = record { guest = inside.image; recorded = inside.trace } in
    subst (λ g. OnlyEntries g c.args.object c.args.access c.args.version c.at.result.now) c.self.view_is
    (listed_only_entries f inside.entered
    (subst (λ ps. IsListing (all_entered inside.trace ps) inside.entered) c.self.invariant.1 c.self.invariant.2) c.args.object c.args.access c.args.version c.at.result.now
    c.at.ensures.emitted)

pub returns-clause-all : goal.returns-clause-all
returns-clause-all c =
    let inside = c.self.inside in
    let f : FittedTrace = record { guest = inside.image; recorded = inside.trace } in
    subst (λ g. AllEntries g c.args.object c.args.access c.args.version c.at.result.now) c.self.view_is
    (listed_all_entries f inside.entered
    (subst (λ ps. IsListing (all_entered inside.trace ps) inside.entered) c.self.invariant.1 c.self.invariant.2) c.args.object c.args.access c.args.version c.at.result.now
    c.at.ensures.all)
