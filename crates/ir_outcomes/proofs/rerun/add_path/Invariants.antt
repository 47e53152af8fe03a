use Rattle.std.proofs.Common.{[], ℕ}
use Rattle.ir_record.specs.Recording.{turns_of_items}
use Rattle.ir_graph.specs.Setup.{Setup}
use Rattle.ir_outcomes.specs.Again.{IsAgain, IsAgainBy}
use Rattle.ir_outcomes.specs.Along.{AlongPath}
use Rattle.ir_outcomes.proofs.Along.{StandsBy}
use Rattle.ir_outcomes.proofs.Paths.{last_turns}
use Rattle.ir_outcomes.proofs.rerun.add_path.Given as goal

abbrev pub invariant-loop-k : goal.invariant-loop-k
invariant-loop-k l = record {
  again : (setup : Setup) → IsAgain setup (turns_of_items l.fn.items.items) [] l.fn.state
      → IsAgainBy setup (turns_of_items l.items.items) l.table (last_turns l.path l.k) l.state;
  stands : (node : ℕ) (from : AlongPath l.table l.path node l.fn.state) → StandsBy from (last_turns l.path l.k) l.state;
}
