use Rattle.std.proofs.Common.{◌≡◌, ◌++◌, drop, flat_map}
use Rattle.ir_why.specs.FitLines.{fit_need_line}
use Rattle.ir_why.proofs.fit_lines.push_needs.Given as goal

abbrev pub invariant-loop-need : goal.invariant-loop-need
invariant-loop-need l = l.text.items ++ flat_map (fit_need_line l.at) (drop l.need-index l.needs) ≡ l.fn.text.items ++ flat_map (fit_need_line l.at) l.needs
