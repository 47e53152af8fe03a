-- What nodes keep where none was added.
use Rattle.std.proofs.Common.{◌≡◌, ℕ, ◌≤◌, Bool, List, length, subst, arith}
use Rattle.ir_state_store.specs.Nodes.{SourcedFlat}
use Rattle.ir_graph.specs.Kept.{NodesKept}
use Rattle.ir_graph.specs.Nodes.{AreNodes}

pub nodes_kept_unchanged : (most : ℕ) (old new : List SourcedFlat) (timed : Bool) → AreNodes old → length old ≤ most → old ≡ new
    → NodesKept most old new timed timed
nodes_kept_unchanged most old new timed nodes room same =
    subst (λ z. NodesKept most old z timed timed) same (record {
      adds = record {
        nodes = nodes;
        stay = λ v s is. is;
        grown = omega arith;
        room = room;
      };
      reached = λ x all. all;
      has = λ x all was. was;
      were = λ none. none;
    })
