use Rattle.std.proofs.Common.{◌≡◌, List, ℕ, ◌-◌, false, suc, length}
use Rattle.std.specs.Io.KnownBytes.{Appends}
use Rattle.ir_outcomes.specs.Exploring.{ExploringGoesOn, levels_left}
use Rattle.ir_explore.specs.Printed.{HasPrinted}
use Rattle.ir_explore.specs.Texts.{objects_in}
use Rattle.ir_explore.proofs.levels.print_levels.Given as goal

abbrev pub invariant-levels : goal.invariant-levels
invariant-levels g l = record {
  kept : ExploringGoesOn l.fn.exploring l.exploring;
  works : g.O.Sink.broken l.out ≡ false;
  printed : (text : List ℕ) × HasPrinted (objects_in l.started) l.exploring (length l.exploring.list.outcomes.items) text
      × Appends (g.O.Sink.written l.fn.out) (g.O.Sink.written l.out) text;
}

abbrev pub decreases-levels : goal.decreases-levels
decreases-levels g l = levels_left l.exploring.stop (suc l.exploring.most - l.exploring.states.search.level.number)
