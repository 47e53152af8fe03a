use Rattle.ir_graph.proofs.Searched.{listed_by, found_by, stand_by, timed_by}
use Rattle.ir_graph.proofs.states.States.is_finished.Goals as goal

pub returns-clause-finished : goal.returns-clause-finished
returns-clause-finished c = λ over is between.
    let s = c.args.self.now in
    let asked = c.is_finished.ensures.finished over _ _ between in
    record {
      all = listed_by s.graph.setup s.graph.flats.items s.graph.rows.items s.graph.refused_rows.items s.search.found.nodes.items
          s.search.found.refusals.items _ _ is.graph is.threads between.has between.all asked;
      nodes = between.all;
      found = found_by s.graph.setup s.graph.flats.items s.graph.rows.items s.graph.refused_rows.items s.search.found.nodes.items
          s.search.found.refusals.items _ _ is.graph is.threads between.has between.all asked;
      stand = stand_by s.graph.setup s.graph.flats.items s.graph.rows.items s.graph.refused_rows.items s.search.found.nodes.items
          s.search.found.refusals.items _ _ is.graph is.threads between.has between.all asked;
      timed = timed_by s.graph.setup s.graph.flats.items s.graph.rows.items s.graph.refused_rows.items s.search.found.nodes.items
          s.search.found.refusals.items _ _ is.graph is.threads between.has between.all asked s.graph.timed is.times;
    }
