use Rattle.std.proofs.Common.{◌≡◌, ◌++◌, drop, flat_map}
use Rattle.ir_why.specs.Lines.{need_line}
use Rattle.ir_why.proofs.texts.push_needs.Given as goal

abbrev pub invariant-loop-place : goal.invariant-loop-place
invariant-loop-place l = l.text.items ++ flat_map (need_line l.trace) (drop l.place-index l.needs) ≡ l.fn.text.items ++ flat_map (need_line l.trace) l.needs
