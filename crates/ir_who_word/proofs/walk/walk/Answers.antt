use Rattle.std.proofs.Common.{◌<◌, ◌≤◌, ◌∙◌, ℕ, length, sym, subst, arith}
use Rattle.std.specs.List.{slice_index_or}
use Rattle.ir_flat.specs.Flat.{idle}
use Rattle.ir_cut.specs.Positions.{cut_of}
use Rattle.ir_events.proofs.CallerLemmas.{pass_lowers_steps_left}
use Rattle.ir_who_word.proofs.Walked.{all_versions_worded}
use Rattle.ir_who.proofs.CallerLemmas.{version_maker_is_inside}
use Rattle.ir_who_word.proofs.walk.walk.Goals as goal

pub passes-smaller : goal.passes-smaller
passes-smaller c =
    let f = c.args.guide.route.fitted.now in
    let ends = c.args.guide.route.ends.now in
    let below = subst (λ xs. (t : ℕ) × (t < length xs) × ((slice_index_or xs t idle).steps < cut_of ends t)) c.threads.ensures
    (c.are_done.ensures.below c.passes-test.true) in
    pass_lowers_steps_left f ends (length c.passes.tracks) c.passes.state c.pass-state.result c.requires.guide.route.last c.pass-state.ensures.passed
    (c.requires.guide.route.last.size ∙ sym c.passes.invariant.tracks) below.0 below.2

pub returns : goal.returns
returns c =
    let f = c.args.guide.route.fitted.now in
    let rows = c.args.guide.rows.now in
    let ends = c.args.guide.route.ends.now in
    let s = c.passes.state in
    let inv = c.passes.invariant in
    let done = subst (λ xs. (t : ℕ) → t < length xs → cut_of ends t ≤ (slice_index_or xs t idle).steps) c.threads.ensures
    (c.are_done.ensures.done c.passes-test.false) in
    all_versions_worded f rows c.args.guide.word s c.passes.tracks c.passes.words inv.tracked inv.size
    (λ r x p there made. let a = (version_maker_is_inside f c.requires.guide.route.last.run c.args.guide.word.object rows c.requires.guide.versions r x p there made).thread in
    let b = inv.tracks in omega (arith, a, b))
    (λ t l. let size = inv.tracks in let b = inv.way.stands.at.threads in
    let a = done t (omega (arith, l, size, b)) in
    let e = c.requires.guide.route.last.steps t (omega (arith, l, size)) in omega (arith, a, e))
