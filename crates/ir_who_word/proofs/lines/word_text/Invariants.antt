use Rattle.std.proofs.Common.{◌≡◌, ◌++◌, length}
use Rattle.std.specs.String.{string_bytes}
use Rattle.ir_who.specs.Lines.{object_line}
use Rattle.ir_who_word.specs.Lines.{changed_lines}
use Rattle.ir_who_word.proofs.lines.word_text.Given as goal

abbrev pub invariant-loop-number : goal.invariant-loop-number
invariant-loop-number l = string_bytes l.text ≡ object_line l.object (length l.rows) ++ changed_lines l.index l.rows l.number
