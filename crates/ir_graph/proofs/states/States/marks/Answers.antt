use Rattle.std.proofs.Common.{length}
use Rattle.ir_search.specs.Levels.{rows}
use Rattle.ir_search.proofs.CallerLemmas.{empty_level_all_asked}
use Rattle.ir_graph.specs.Notes.{noted_by}
use Rattle.ir_graph.proofs.Searched.{marked_by, if_ok_of_implied}
use Rattle.ir_graph.proofs.states.States.marks.Goals as goal

pub returns : goal.returns
returns c =
    let graph = c.args.self.now.graph in
    let search = c.args.self.now.search in
    let between = c.requires.between in
    let asked = empty_level_all_asked (noted_by graph.rows.items graph.refused_rows.items) (length graph.flats.items) search.found.nodes.items
    search.found.refusals.items (rows search.opened.items) search.level between
    c.requires.over in
    if_ok_of_implied c.mark_states.result (λ marks ways. marked_by graph.setup graph.flats.items graph.rows.items graph.refused_rows.items
    search.found.nodes.items search.found.refusals.items
    (length (rows search.opened.items)) search.level.number c.requires.is.graph c.requires.is.threads between.has between.all asked marks.items ways)
    c.mark_states.ensures
