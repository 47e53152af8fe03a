use Rattle.ir_why.specs.Tables.{AreRaised}
use Rattle.ir_why.proofs.before.raise.Given as goal

abbrev pub invariant-loop-place : goal.invariant-loop-place
invariant-loop-place l = AreRaised l.fn.counts.items l.counts.items l.places l.place-index
