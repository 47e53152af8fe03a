use Rattle.std.proofs.Common.{◌≡◌, ◌+◌, drop}
use Rattle.ir_schedule.specs.Spelling.{marks}
use Rattle.ir_schedule.proofs.text.marks.Given as goal

abbrev pub invariant-bytes : goal.invariant-bytes
invariant-bytes l = l.index + marks (drop l.index l.text) ≡ marks l.text
