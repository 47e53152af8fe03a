use Rattle.std.proofs.Common.{◌≡◌, ◌≤◌, ◌+◌, ◌*◌, ◌^◌, drop}
use Rattle.ir_checkpoint.specs.Keeping.{total}
use Rattle.ir_checkpoint.proofs.finding.total.Given as goal

abbrev pub invariant-loop-position : goal.invariant-loop-position
invariant-loop-position l = record { low : l.all ≤ 2 ^ 64 * l.position-index; rest : l.all + total (drop l.position-index l.cut) ≡ total l.cut }
