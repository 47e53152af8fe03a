use Rattle.std.proofs.Common.{List, sym, subst}
use Rattle.ir_weave.specs.Standing.{flat_in, positions}
use Rattle.ir_stale_run.specs.Watch.{AreWatched}
use Rattle.ir_stale_run.specs.declared.watch.Watch.{Watch}
use Rattle.ir_stale_run.proofs.Built.{watch_at_start_if_built, built_start_is_found}
use Rattle.ir_stale_run.proofs.walk.walk.Goals as goal

pub walk_on-requires-clause-watched : goal.walk_on-requires-clause-watched
walk_on-requires-clause-watched c =
    let copies = c.args.guide.copies in
    let f = c.args.guide.route.fitted.now in
    let rows = c.args.guide.rows.now in
    let s = c.in_ok-state.state in
    subst (λ (ws : List Watch). AreWatched copies f rows s ws c.args.rests.now) (sym c.deref_mut.ensures.value)
    (λ t d l. let is = c.in_ok-watches.ensures.built t d l in (
      watch_at_start_if_built copies f rows c.args.rests.now t (positions (flat_in f s) t) _ is (c.in_ok-watches.ensures.sorted t d l) (c.in_ok-state.ensures.below (λ u. 0) t),
      built_start_is_found copies f rows c.args.rests.now t _ is,
    ))
