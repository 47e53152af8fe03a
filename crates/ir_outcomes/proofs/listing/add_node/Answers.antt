use Rattle.std.proofs.Common.{◌≡◌, ◌++◌, ◌<◌, [], ◌∷◌, suc, Some, length, length-append, sym, ap, ◌∙◌, subst, arith}
use Rattle.std.specs.Prelude.{slice_get}
use Rattle.ir_lemmas.proofs.CallerLemmas.{added_element_is_last, element_below_length}
use Rattle.ir_search.proofs.CallerLemmas.{slice_get_append_kept}
use Rattle.ir_graph.specs.Listing.{AreOutcomes}
use Rattle.ir_outcomes.specs.Explored.{IsFew}
use Rattle.ir_outcomes.specs.Exploring.{HasShown}
use Rattle.ir_outcomes.proofs.Ends.{further_if_new, may_end_by_stop}
use Rattle.ir_outcomes.proofs.Listed.{has_shown_step}
use Rattle.ir_outcomes.proofs.listing.add_node.Goals as goal

pub returns-clause-has : goal.returns-clause-has
returns-clause-has c =
    let setup = c.args.states.now.graph.setup in
    let flats = c.args.states.now.graph.flats.items in
    let origins = c.args.states.now.search.found.nodes.items in
    let listed = c.args.list.now.listed.items in
    let outcomes = c.args.list.now.outcomes.items in
    let node = c.args.node in
    let x = c.in-Ok.shown in
    let different = subst (λ z. AreOutcomes flats (suc node) (z ++ node ∷ [])) c.as_slice.ensures.value (c.has_new_outcome.ensures.new c.if-not-has_new_outcome.false) in
    subst (λ z. HasShown setup flats origins (suc node) z c.push-2.new.self.items) (sym c.in_ok-push.ensures.items)
    (subst (HasShown setup flats origins (suc node) (listed ++ node ∷ [])) (sym c.in_ok-push-2.ensures.items)
    (has_shown_step setup flats origins node listed outcomes x c.requires.has different c.in-Ok.ensures.node
    c.in-Ok.ensures.level c.in-Ok.ensures.shown))

pub show-requires-clause-done : goal.show-requires-clause-done
show-requires-clause-done c = λ s at.
    let listed = c.as_slice.result.now in
    ((c.has_new_outcome.ensures.new c.if-not-has_new_outcome.false).done (length listed) c.args.node (added_element_is_last listed c.args.node)).1 s at

pub is_full-requires : goal.is_full-requires
is_full-requires c = record {
  few = subst (IsFew c.args.states.now.graph.bounds) (sym (c.len.ensures ∙ c.args.list.now.outcomes.ok.0)) c.requires.few;
}

pub returns-then-is_full-clause-refused : goal.returns-then-is_full-clause-refused
returns-then-is_full-clause-refused c =
    let setup = c.args.states.now.graph.setup in
    let flats = c.args.states.now.graph.flats.items in
    let origins = c.args.states.now.search.found.nodes.items in
    let listed = c.args.list.now.listed.items in
    let node = c.args.node in
    let x = c.in-Ok.shown in
    let different = subst (λ z. AreOutcomes flats (suc node) (z ++ node ∷ [])) c.as_slice.ensures.value (c.has_new_outcome.ensures.new c.if-not-has_new_outcome.false) in
    let less : node < length flats = (let a = c.requires.node in let b = c.requires.searched.few in omega (arith, a, b)) in
    let s = element_below_length flats node less in (
      c.is_full.ensures.full c.if-is_full.true ∙ ap Some (c.len.ensures ∙ c.args.list.now.outcomes.ok.0),
      further_if_new setup flats origins node listed c.args.list.now.outcomes.items x s.0 c.requires.has different s.1 (c.in-Ok.ensures.shown s.0 s.1),
    )

pub returns-in-Err-clause-refused : goal.returns-in-Err-clause-refused
returns-in-Err-clause-refused c =
    may_end_by_stop c.args.states.now.graph.setup c.args.states.now.graph.flats.items c.args.states.now.graph.bounds c.args.list.now.outcomes.items
    c.in-Err.stop c.in-Err.ensures.refused

pub returns-clause-few : goal.returns-clause-few
returns-clause-few c =
    let more = length-append c.args.list.now.outcomes.items (c.in-Ok.shown ∷ []) in
    let size = c.len.ensures ∙ c.args.list.now.outcomes.ok.0 in
    let items = ap length c.in_ok-push-2.ensures.items in
    λ most is. let room = c.is_full.ensures.more c.if-is_full.false most is in omega (arith, room, more, size, items)

pub returns-clause-stay : goal.returns-clause-stay
returns-clause-stay c = λ v x is.
    subst (λ z. slice_get z v ≡ Some x) (sym c.in_ok-push-2.ensures.items)
    (slice_get_append_kept c.args.list.now.outcomes.items (c.in-Ok.shown ∷ []) v x is)
