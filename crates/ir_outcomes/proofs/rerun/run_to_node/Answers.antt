use Rattle.ir_graph.specs.Setup.{setup_start}
use Rattle.ir_graph.proofs.CallerLemmas.{like_symmetric, like_transitive}
use Rattle.ir_graph.specs.Notes.{noted_by}
use Rattle.ir_outcomes.proofs.Along.{path_has_ways}
use Rattle.ir_outcomes.proofs.rerun.run_to_node.Goals as goal

pub run_again-requires-clause-ways : goal.run_again-requires-clause-ways
run_again-requires-clause-ways c =
    let graph = c.args.states.now.graph in
    let found = c.args.states.now.search.found in
    path_has_ways (noted_by graph.rows.items graph.refused_rows.items) found.refusals.items found.nodes.items c.requires.search.ways c.args.node c.args.path.now
    c.requires.path

pub run_from_rest-requires-clause-ways : goal.run_from_rest-requires-clause-ways
run_from_rest-requires-clause-ways c =
    let graph = c.args.states.now.graph in
    let found = c.args.states.now.search.found in
    path_has_ways (noted_by graph.rows.items graph.refused_rows.items) found.refusals.items found.nodes.items c.requires.search.ways c.args.node c.args.path.now
    c.requires.path

pub same_state-requires-clause-like : goal.same_state-requires-clause-like
same_state-requires-clause-like c =
    let u = c.in-Ok.state in
    let s = c.in_ok-kept.kept in
    let first = (setup_start c.args.states.now.graph.setup).flat in
    like_transitive u.flat first s.flat (like_symmetric first u.flat c.in-Ok.ensures.again.like)
    (c.requires.search.graph.reached c.args.node s c.in_ok-kept.ensures.found).like
