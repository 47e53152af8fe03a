use Rattle.std.proofs.Common.{sym, ap, ◌∙◌, subst, arith, refl, false}
use Rattle.std.proofs.lemmas.Option.{same_Some, slice_get_within}
use Rattle.ir_outcomes.specs.Hang.{IsFirstHang}
use Rattle.ir_outcomes.proofs.hang.find_hang.Goals as goal

pub lead-requires-clause-origin : goal.lead-requires-clause-origin
lead-requires-clause-origin c =
    let l = slice_get_within c.args.marks.now c.in-Some.node false (c.in-Some.ensures.some c.in-Some.node refl).0 in
    let a = c.requires.marks in omega (arith, l, a)

pub returns-in-Ok-clause-first : goal.returns-in-Ok-clause-first
returns-in-Ok-clause-first c = λ x is.
    subst (IsFirstHang c.args.marks.now) (sym c.in-Ok.ensures.node ∙ ap (λ z. z.node) (same_Some c.in-Ok.shown x is))
    (c.in-Some.ensures.some c.in-Some.node refl)
