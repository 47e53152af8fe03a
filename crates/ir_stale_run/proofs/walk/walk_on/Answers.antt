use Rattle.std.proofs.Common.{◌<◌, ◌∙◌, ℕ, length, sym, subst}
use Rattle.std.specs.List.{slice_index_or}
use Rattle.ir_flat.specs.Flat.{idle}
use Rattle.ir_cut.specs.Positions.{cut_of}
use Rattle.ir_events.proofs.CallerLemmas.{pass_lowers_steps_left}
use Rattle.ir_stale_run.proofs.walk.walk_on.Goals as goal

pub passes-smaller : goal.passes-smaller
passes-smaller c =
    let f = c.args.guide.route.fitted.now in
    let ends = c.args.guide.route.ends.now in
    let below = subst (λ xs. (t : ℕ) × (t < length xs) × ((slice_index_or xs t idle).steps < cut_of ends t)) c.threads.ensures
    (c.are_done.ensures.below c.passes-test.true) in
    pass_lowers_steps_left f ends (length c.passes.watches) c.passes.state c.in_ok-state.state c.requires.guide.route.last c.in_ok-state.ensures.passed
    (c.requires.guide.route.last.size ∙ sym c.passes.invariant.watches) below.0 below.2
