use Rattle.std.proofs.Common.{◌<◌, ◌≤◌, ℕ, [], length, subst, sym, ◌∙◌, arith}
use Rattle.std.specs.List.{slice_index_or}
use Rattle.ir_flat.specs.Flat.{idle}
use Rattle.ir_cut.specs.Positions.{cut_of}
use Rattle.ir_weave.specs.Standing.{flat_in, positions}
use Rattle.ir_events.proofs.Listed.{listed_are_thread_pcs}
use Rattle.ir_events.proofs.Passes.{pass_lowers_steps_left}
use Rattle.ir_events.proofs.walk.walk.Goals as goal

pub passes-smaller : goal.passes-smaller
passes-smaller c =
    let f = c.args.fitted.now in
    let ends = c.args.ends.now in
    let below = subst (λ xs. (t : ℕ) × (t < length xs) × ((slice_index_or xs t idle).steps < cut_of ends t)) c.threads.ensures
    (c.are_done.ensures.below c.passes-test.true) in
    pass_lowers_steps_left f ends (length c.passes.lists) c.passes.state c.in_ok-state.state c.requires.ends c.in_ok-state.ensures.passed
    (c.requires.ends.size ∙ sym c.passes.invariant.size) below.0 below.2

pub returns : goal.returns
returns c =
    let f = c.args.fitted.now in
    let ends = c.args.ends.now in
    let s = c.passes.state in
    let i = c.passes.invariant in
    let done = subst (λ xs. (t : ℕ) → t < length xs → cut_of ends t ≤ (slice_index_or xs t idle).steps) c.threads.ensures
    (c.are_done.ensures.done c.passes-test.false) in
    record {
      size = i.size;
      each = λ t l. listed_are_thread_pcs f ends t (positions (flat_in f s) t) (slice_index_or c.passes.lists t []) c.requires.ends l
          (i.listed t (let n = i.size in omega (arith, n, l)))
          (done t (let n = i.way.stands.at.threads in omega (arith, n, l)));
    }
