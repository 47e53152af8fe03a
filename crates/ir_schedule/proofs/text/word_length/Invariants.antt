use Rattle.std.proofs.Common.{◌≡◌, ◌+◌, drop}
use Rattle.ir_schedule.specs.Spelling.{word_length}
use Rattle.ir_schedule.proofs.text.word_length.Given as goal

abbrev pub invariant-bytes : goal.invariant-bytes
invariant-bytes l = l.index + word_length (drop l.index l.text) ≡ word_length l.text
