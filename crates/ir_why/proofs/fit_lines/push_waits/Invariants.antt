use Rattle.std.proofs.Common.{◌≡◌, ◌++◌, drop, flat_map}
use Rattle.ir_why.specs.FitLines.{wait_line}
use Rattle.ir_why.proofs.fit_lines.push_waits.Given as goal

abbrev pub invariant-loop-wait : goal.invariant-loop-wait
invariant-loop-wait l = l.text.items ++ flat_map wait_line (drop l.wait-index l.waits) ≡ l.fn.text.items ++ flat_map wait_line l.waits
