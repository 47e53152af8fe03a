use Rattle.std.proofs.Common.{length, sym, ap, ◌∙◌, subst, arith}
use Rattle.ir_search.specs.Levels.{rows}
use Rattle.ir_search.specs.Searching.{IsBetween}
use Rattle.ir_graph.specs.Ahead.{AreTurns}
use Rattle.ir_graph.specs.Graph.{IsGraph}
use Rattle.ir_graph.specs.Notes.{noted_by}
use Rattle.ir_graph.specs.Times.{KnowsTimes}
use Rattle.ir_graph.proofs.states.States.start.Goals as goal

pub returns-clause-is : goal.returns-clause-is
returns-clause-is c =
    let graph = c.in_ok-graph.graph in
    let made = c.in_ok-graph.ensures in
    let noted = noted_by graph.rows.items graph.refused_rows.items in
    let has = (c.in_ok-search.ensures.between noted).has in record {
      graph = subst (λ z. IsGraph z graph.flats.items noted (length graph.rows.items)) (sym made.setup) made.sound;
      turns = subst (AreTurns graph.setup.guest.code graph.flats.shared) (sym made.none) tt;
      room = let one = made.one in let b = ap (λ z. z.nodes) made.bounds in let some = c.requires.some in omega (arith, one, b, some);
      threads = c.in_ok-search.ensures.threads ∙ c.len.ensures ∙ graph.rows.ok.0;
      code = made.code ∙ ap (λ z. z.guest.code) (sym made.setup);
      ways = has.reached;
      times = subst (λ z. KnowsTimes z graph.flats.items noted graph.timed) (sym made.setup) made.times;
      few = let one = made.one in let l = has.few in omega (arith, one, l);
    }

pub returns-clause-between : goal.returns-clause-between
returns-clause-between c =
    let noted = noted_by c.in_ok-graph.graph.rows.items c.in_ok-graph.graph.refused_rows.items in
    let search = c.in_ok-search.search in
    subst (λ n. IsBetween noted n search.found.nodes.items search.found.refusals.items (rows search.opened.items) search.level) (sym c.in_ok-graph.ensures.one)
    (c.in_ok-search.ensures.between noted)
