use Rattle.std.proofs.Common.{◌≡◌, ◌==◌, drop}
use Rattle.std.specs.Prelude.{find}
use Rattle.ir_debug.proofs.points.is_set.Given as goal

abbrev pub invariant-loop-each : goal.invariant-loop-each
invariant-loop-each l = find (λ p. p.number == l.number) (drop l.each-index l.points) ≡ find (λ p. p.number == l.number) l.points
