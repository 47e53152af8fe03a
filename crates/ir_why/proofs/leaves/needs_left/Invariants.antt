use Rattle.ir_why.specs.FitAnswers.{IsNeed}
use Rattle.ir_opened.proofs.CallerLemmas.{ArePairedTo}
use Rattle.ir_why.proofs.leaves.needs_left.Given as goal

abbrev pub invariant-loop-place : goal.invariant-loop-place
invariant-loop-place l = ArePairedTo (IsNeed l.fitted) l.places l.place-index l.needs.items
