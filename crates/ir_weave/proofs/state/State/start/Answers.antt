use Rattle.std.proofs.Common.{◌∙◌, ap}
use Rattle.ir_flat.specs.Flat.{start_flat}
use Rattle.ir_weave.specs.Standing.{Standing, StandsAtCut}
use Rattle.ir_weave.proofs.Opening.{fitted_guest_is_allowed, start_stands_at_zero, start_stands_at_own, start_below_any_cut}
use Rattle.ir_weave.proofs.state.State.start.Goals as goal
use Rattle.ir_weave.proofs.state.State.start.Goals.{After-into_parts-threads}

pub start-requires-clause-allowed : goal.start-requires-clause-allowed
start-requires-clause-allowed c = fitted_guest_is_allowed c.args.fitted.now c.profile.result c.image.result.now c.known.ensures
    (c.profile.ensures ∙ ap (λ r. r.profile) c.trace-trace.ensures.value) c.image.ensures.value

abbrev made : After-into_parts-threads → Standing
made c = record { threads = c.into_parts-threads.result.0.items; objects = c.into_parts-threads.result.1.items }

first : (c : After-into_parts-threads) → StandsAtCut c.args.fitted.now (λ t. 0) (made c)
first c =
    start_stands_at_zero c.args.fitted.now c.in_ok-flat.flat (made c)
    (c.in_ok-flat.ensures ∙ (λ i. start_flat (c.image.ensures.value i)
    ((c.budget.ensures.value ∙ ap (λ r. r.budget) c.trace-trace.ensures.value) i)
    ((c.profile.ensures ∙ ap (λ r. r.profile) c.trace-trace.ensures.value) i)))
    c.into_parts-threads.ensures.within c.into_parts-threads.ensures.threads c.into_parts-threads.ensures.objects

pub returns-clause-start : goal.returns-clause-start
returns-clause-start c = first c

pub returns-clause-own : goal.returns-clause-own
returns-clause-own c = start_stands_at_own c.args.fitted.now (made c) (first c)

pub returns-clause-below : goal.returns-clause-below
returns-clause-below c = start_below_any_cut c.args.fitted.now (made c) (first c)
