use Rattle.std.proofs.Common.{◌≡◌, ◌++◌, drop}
use Rattle.std.specs.String.{string_bytes}
use Rattle.ir_who.specs.FitLines.{dated_text, dated_lines}
use Rattle.ir_who.proofs.fit_lines.dated_text.Given as goal

abbrev pub invariant-loop-number : goal.invariant-loop-number
invariant-loop-number l = string_bytes l.text ++ dated_lines l.number (drop l.number l.rows) ≡ dated_text l.object l.rows
