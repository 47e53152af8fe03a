use Rattle.std.proofs.Common.{◌≡◌, Bool, true, List, refl, sym, subst}
use Rattle.ir_liveness.specs.Marks.{IsSwept}
use Rattle.ir_liveness.proofs.Swept.{swept_with_mark}
use Rattle.ir_liveness.proofs.sweep.mark_if_seen.Goals as goal

pub returns-clause-swept : goal.returns-clause-swept
returns-clause-swept c = λ code at.
    let marks = c.args.marks.now in
    subst (λ (z : List Bool). IsSwept code marks z true (λ w p. (w ≡ c.args.word) × (p ≡ c.args.place))) (sym c.mark.ensures)
    (swept_with_mark code marks c.args.word c.args.place c.args.inst.now (λ w p. (w ≡ c.args.word) × (p ≡ c.args.place)) at
    c.requires.low c.requires.within (sym c.if-is_marked.ensures) (c.if-not-is_seen.ensures.found refl))
