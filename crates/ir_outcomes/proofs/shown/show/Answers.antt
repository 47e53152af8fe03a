use Rattle.std.proofs.Common.{◌≡◌, ◌<◌, ◌≤◌, Some, suc, length, sym, ap, ◌∙◌, subst, arith}
use Rattle.std.specs.Prelude.{slice_get}
use Rattle.std.specs.List.{slice_index_or}
use Rattle.std.proofs.lemmas.Option.{same_Some, slice_get-get_or}
use Rattle.ir_search.specs.declared.origin.Origin.{Origin}
use Rattle.ir_search.specs.Origins.{first_origin}
use Rattle.ir_graph.specs.Notes.{noted_by}
use Rattle.ir_record.specs.Recording.{turns_of_items}
use Rattle.ir_outcomes.specs.Path.{FallInLevel, IsPathTo}
use Rattle.ir_outcomes.proofs.Along.{origins_fall_in_level}
use Rattle.ir_outcomes.proofs.Onwards.{done_with_same_outcome}
use Rattle.ir_outcomes.proofs.Showing.{shown_if_again}
use Rattle.ir_outcomes.proofs.shown.show.Goals as goal

pub path_to-requires-clause-within : goal.path_to-requires-clause-within
path_to-requires-clause-within c = subst (λ z. c.args.node < length z) (sym c.as_slice-origins.ensures.value) c.requires.origin

pub path_to-requires-clause-falls : goal.path_to-requires-clause-falls
path_to-requires-clause-falls c =
    let graph = c.args.states.now.graph in
    let found = c.args.states.now.search.found in
    subst FallInLevel (sym c.as_slice-origins.ensures.value)
    (origins_fall_in_level (noted_by graph.rows.items graph.refused_rows.items) found.refusals.items found.nodes.items c.requires.search.ways)

pub run_to_node-requires-clause-node : goal.run_to_node-requires-clause-node
run_to_node-requires-clause-node c = let a = c.requires.origin in let b = c.requires.search.few in omega (arith, a, b)

pub run_to_node-requires-clause-path : goal.run_to_node-requires-clause-path
run_to_node-requires-clause-path c =
    subst (IsPathTo c.args.states.now.search.found.nodes.items c.args.node) (sym c.as_slice.ensures.value)
    (subst (λ z. IsPathTo z c.args.node c.in_ok-path.path.items) c.as_slice-origins.ensures.value c.in_ok-path.ensures.path)

pub returns-clause-level : goal.returns-clause-level
returns-clause-level c = λ n is.
    let origins = c.as_slice-origins.result.now in
    let wide : c.args.node < length origins = subst (λ z. c.args.node < length z) (sym c.as_slice-origins.ensures.value) c.requires.origin in
    let at : slice_get origins c.args.node ≡ Some n = subst (λ z. slice_get z c.args.node ≡ Some n) (sym c.as_slice-origins.ensures.value) is in
    ap (λ z. z.level)
    (same_Some (slice_index_or origins c.args.node first_origin) n (sym (slice_get-get_or origins c.args.node first_origin wide) ∙ at))

pub returns-clause-shown : goal.returns-clause-shown
returns-clause-shown c = λ s here.
    let setup = c.args.states.now.graph.setup in
    let u = c.in-Ok.run'.0 in
    let again = c.in-Ok.ensures.again in
    let origins = c.as_slice-origins.result.now in
    let wide : c.args.node < length origins = subst (λ z. c.args.node < length z) (sym c.as_slice-origins.ensures.value) c.requires.origin in
    let n : Origin = slice_index_or origins c.args.node first_origin in
    let same : s.flat.code ≡ u.flat.code = (c.requires.search.graph.reached c.args.node s here).like.code ∙ sym again.again.like.code in
    let done = done_with_same_outcome u s same (c.in-Ok.ensures.alike s here) (c.requires.done s here) in
    shown_if_again setup (turns_of_items c.in-Ok.run'.1.items) c.args.states.now.search.found.refusals.items c.as_slice.result.now u again n.level s
    (subst (λ z. length z ≤ suc n.level) (sym c.as_slice.ensures.value)
    (c.in_ok-path.ensures.few n (slice_get-get_or origins c.args.node first_origin wide)))
    done.0 done.1
