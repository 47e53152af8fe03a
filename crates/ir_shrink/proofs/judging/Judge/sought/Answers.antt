use Rattle.std.proofs.Common.{sym, subst, arith, inl, inr}
use Rattle.std.proofs.lemmas.Bool.{cases_eq}
use Rattle.ir_shrink.specs.Shrinking.{goal_of, IsNoneBetterAt}
use Rattle.ir_shrink.proofs.judging.Judge.sought.Goals as goal

pub places-init : goal.places-init
places-init g c = λ place l. absurd (omega (arith, l))

pub places-preserved : goal.places-preserved
places-preserved g c = λ place l. elim (cases_eq place c.places.place) [
  | inl e ↦ subst (λ p. IsNoneBetterAt (goal_of c.args.self.now.image.now c.args.self.now.plan.now) c.args.kept.now.items.items c.args.kept.now.switches p 1)
      (sym e) (rw c.in-None.is at c.in_ok-found.ensures)
  | inr ne ↦ c.places.invariant place (omega (arith, l, ne))
]
