use Rattle.std.proofs.Common.{◌≡◌, ◌∙◌, ap, length, subst, sym}
use Rattle.std.specs.Prelude.{replicate}
use Rattle.std.proofs.lemmas.List.{length-replicate}
use Rattle.ir_hits.specs.declared.before.Before.TheVariants.{Nothing}
use Rattle.ir_hits.proofs.Hitting.{AreNothingNoted}
use Rattle.ir_hits.proofs.Onward.{start_hit_is_last}
use Rattle.ir_hits.proofs.Seen.{replicated_nothing_entry}
use Rattle.ir_hits.proofs.search.last_hit.Goals as goal

pub last_in-requires-clause-found : goal.last_in-requires-clause-found
last_in-requires-clause-found g c κs within =
    let n = length c.args.points.now in
    let is : c.deref.result.now ≡ replicate n Nothing = c.deref.ensures.value ∙ c.in_ok-notes.ensures.items_if_clones_equal (λ y e. e) in
    start_hit_is_last c.args.fitted.now c.in_ok-last.last c.args.points.now c.deref.result.now c.args.t c.args.state.now c.position-end.result
    c.thread_of.result.now c.thread_of.ensures c.in_ok-last.ensures c.requires.stands c.position-end.ensures
    (ap length is ∙ length-replicate n Nothing) (subst AreNothingNoted (sym is) (replicated_nothing_entry n)) c.start_hit-found.result
    c.start_hit-found.ensures.start c.start_hit-found.ensures.later
