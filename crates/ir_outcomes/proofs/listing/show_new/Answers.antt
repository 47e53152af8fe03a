use Rattle.std.proofs.Common.{◌≡◌, ◌+◌, ◌<◌, suc, Some, length, sym, ap, ◌∙◌, subst, arith}
use Rattle.std.specs.Prelude.{slice_get}
use Rattle.std.proofs.lemmas.Option.{slice_get-get_or}
use Rattle.ir_outcomes.specs.Explored.{AreExplored}
use Rattle.ir_outcomes.specs.Exploring.{HasShown}
use Rattle.ir_outcomes.proofs.Listed.{explored_whole, explored_cut}
use Rattle.ir_outcomes.proofs.listing.show_new.Goals as goal

pub returns-in-Err-clause-explored : goal.returns-in-Err-clause-explored
returns-in-Err-clause-explored c =
    let setup = c.args.states.now.graph.setup in
    let flats = c.args.states.now.graph.flats.items in
    let origins = c.args.states.now.search.found.nodes.items in
    let node = c.loop-node.node in
    let n = c.index.result.now in
    let all = c.len-node-end.ensures ∙ c.args.states.now.search.found.nodes.ok.0 in
    let less : node < length origins = (let a = c.loop-node-test.true in omega (arith, a, all)) in
    let at : slice_get origins node ≡ Some n = slice_get-get_or origins node n less ∙ ap Some (sym c.index.ensures) in
    subst (AreExplored setup flats n.level) (sym c.in-Err.ensures.same)
    (explored_cut setup flats origins c.args.states.now.search.level.number node c.loop-node.list.listed.items c.loop-node.list.outcomes.items
    c.requires.searched c.loop-node.invariant.within c.loop-node.invariant.has n at)

pub loop-node-preserved : goal.loop-node-preserved
loop-node-preserved c =
    let setup = c.args.states.now.graph.setup in
    let flats = c.args.states.now.graph.flats.items in
    let origins = c.args.states.now.search.found.nodes.items in
    let all = c.len-node-end.ensures ∙ c.args.states.now.search.found.nodes.ok.0 in
    let next : suc c.loop-node.node ≡ c.loop-node.node + 1 = omega arith in
    record {
      has = subst (λ n. HasShown setup flats origins n c.add_node.new.list.listed.items c.add_node.new.list.outcomes.items) next c.in_default.ensures.has;
      few = c.add_node.ensures.few;
      stay = λ v x is. c.add_node.ensures.stay v x (c.loop-node.invariant.stay v x is);
      within = let a = c.loop-node-test.true in omega (arith, a, all);
    }

pub returns-clause-explored : goal.returns-clause-explored
returns-clause-explored c =
    let setup = c.args.states.now.graph.setup in
    let flats = c.args.states.now.graph.flats.items in
    let origins = c.args.states.now.search.found.nodes.items in
    let all = c.len-node-end.ensures ∙ c.args.states.now.search.found.nodes.ok.0 in
    explored_whole setup flats origins c.args.states.now.search.level.number c.loop-node.node c.loop-node.list.listed.items c.loop-node.list.outcomes.items
    c.requires.searched c.loop-node.invariant.within c.loop-node.invariant.has
    (let a = c.loop-node-test.false in let b = c.loop-node.invariant.within in omega (arith, a, b, all))

pub returns-clause-has : goal.returns-clause-has
returns-clause-has c =
    let setup = c.args.states.now.graph.setup in
    let flats = c.args.states.now.graph.flats.items in
    let origins = c.args.states.now.search.found.nodes.items in
    let all = c.len-node-end.ensures ∙ c.args.states.now.search.found.nodes.ok.0 in
    let seen = c.len-list.ensures ∙ c.args.states.now.search.found.nodes.ok.0 in
    let same : c.loop-node.node ≡ c.len-list.result =
    (let a = c.loop-node-test.false in let b = c.loop-node.invariant.within in omega (arith, a, b, all, seen)) in
    subst (λ n. HasShown setup flats origins n c.loop-node.list.listed.items c.loop-node.list.outcomes.items) same c.loop-node.invariant.has
