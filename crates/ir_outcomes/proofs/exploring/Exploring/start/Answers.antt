use Rattle.std.proofs.Common.{[], length, sym, ap, subst, arith}
use Rattle.ir_outcomes.specs.Explored.{AreExplored}
use Rattle.ir_outcomes.specs.Exploring.{HasShown}
use Rattle.ir_outcomes.proofs.Listed.{explored_before_first, shown_before_first_node}
use Rattle.ir_outcomes.proofs.exploring.Exploring.start.Goals as goal

pub returns-clause-is : goal.returns-clause-is
returns-clause-is c =
    let s = c.in_ok-states.states in
    let setup = s.graph.setup in
    let flats = s.graph.flats.items in
    let origins = s.search.found.nodes.items in
    let first = c.in_ok-states.ensures.first in
    record {
      search = c.in_ok-states.ensures.is;
      explored = subst (AreExplored setup flats 0) (sym c.new.ensures.items) (explored_before_first setup flats);
      wanted = let a = c.in_ok-states.ensures.number in omega (arith, a);
      going = λ none. record {
        between = c.in_ok-states.ensures.between;
        searched = λ some. absurd (omega (arith, first, some));
        has = subst (λ z. HasShown setup flats origins 0 z c.new.result.items) (sym c.new-2.ensures.items)
            (subst (HasShown setup flats origins 0 []) (sym c.new.ensures.items) (shown_before_first_node setup flats origins));
        few = omega arith;
        seen = λ some. absurd (omega (arith, first, some));
        levels = sym c.in_ok-states.ensures.number;
      };
      few = λ most is. let none = ap length c.new.ensures.items in omega (arith, none);
      stopped = λ why is. absurd (cc is);
    }
