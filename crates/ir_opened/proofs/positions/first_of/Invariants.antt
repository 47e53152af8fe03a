use Rattle.std.proofs.Common.{◌≤◌}
use Rattle.ir_opened.specs.Positions.{NoLeaveAs}
use Rattle.ir_opened.proofs.positions.first_of.Given as goal

-- none of those before is so
abbrev pub invariant-loop-number : goal.invariant-loop-number
invariant-loop-number l = record {
  from : l.start ≤ l.number;
  none : NoLeaveAs l.leaves l.start l.number l.stay.object l.stay.access l.stay.version;
}
