use Rattle.std.proofs.Common.{◌≡◌, ◌++◌, drop}
use Rattle.std.specs.String.{string_bytes}
use Rattle.ir_who.specs.Lines.{versions_text, version_lines}
use Rattle.ir_who.proofs.texts.object_text.Given as goal

abbrev pub invariant-loop-number : goal.invariant-loop-number
invariant-loop-number l = string_bytes l.text ++ version_lines l.number (drop l.number l.rows) ≡ versions_text l.object l.rows
