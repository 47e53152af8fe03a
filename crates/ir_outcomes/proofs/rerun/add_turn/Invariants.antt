use Rattle.std.proofs.Common.{List, ℕ, Bool, ◌++◌}
use Rattle.ir_record.specs.Recording.{turns_of_items}
use Rattle.ir_graph.specs.Setup.{Setup}
use Rattle.ir_outcomes.specs.Again.{IsAgain, ways_by}
use Rattle.ir_outcomes.specs.Along.{ArrivesBy}
use Rattle.ir_outcomes.proofs.Paths.{last_ways}
use Rattle.ir_outcomes.proofs.rerun.add_turn.Given as goal

abbrev pub invariant-loop-k : goal.invariant-loop-k
invariant-loop-k l = record {
  again : (setup : Setup) (before : List (ℕ × Bool)) → IsAgain setup (turns_of_items l.fn.items.items) before l.fn.state
      → IsAgain setup (turns_of_items l.items.items) (before ++ ways_by l.thread (last_ways l.refusals.items l.k)) l.state;
  arrives : ArrivesBy l.thread (last_ways l.refusals.items l.k) l.fn.state l.state;
}
