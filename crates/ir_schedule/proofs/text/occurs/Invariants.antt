use Rattle.std.proofs.Common.{◌≡◌, drop}
use Rattle.ir_schedule.specs.Conditions.{occurs_in}
use Rattle.ir_schedule.proofs.text.occurs.Given as goal

abbrev pub invariant-starts : goal.invariant-starts
invariant-starts l = occurs_in l.text (drop l.start l.bytes) ≡ occurs_in l.text l.bytes
