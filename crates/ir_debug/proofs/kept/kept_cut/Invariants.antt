use Rattle.std.proofs.Common.{◌≡◌, ◌==◌, drop}
use Rattle.std.specs.Prelude.{find}
use Rattle.ir_debug.proofs.kept.kept_cut.Given as goal

abbrev pub invariant-loop-each : goal.invariant-loop-each
invariant-loop-each l = find (λ k. k.number == l.number) (drop l.each-index l.kept) ≡ find (λ k. k.number == l.number) l.kept
