use Rattle.std.proofs.Common.{◌≡◌, ◌∙◌, sym, ap, arith, Some, true}
use Rattle.std.proofs.lemmas.Bool.Decides.{Decides-eqb}
use Rattle.std.proofs.lemmas.Option.{same_Some, slice_get-get_or, slice_get_within}
use Rattle.std.proofs.lemmas.Slice.Eq.{slice_eq-Decides}
use Rattle.ir_state_store.proofs.words.has.Goals as goal

pub returns-in-Some-clause-same : goal.returns-in-Some-clause-same
returns-in-Some-clause-same c = λ equal.
    slice_get-get_or c.args.items.now c.args.n c.in-Some.kept.now c.in-Some.ensures.lookup.3.0 ∙ ap Some (sym c.in-Some.ensures.lookup.1)
    ∙ ap Some (sym c.as_slice.ensures ∙ (slice_eq-Decides Decides-eqb c.as_slice.result.now c.args.words.now c.eq.result c.eq.ensures).0 equal)

pub returns-in-Some-clause-other : goal.returns-in-Some-clause-other
returns-in-Some-clause-other c = λ unequal at.
    let here = slice_get-get_or c.args.items.now c.args.n c.in-Some.kept.now c.in-Some.ensures.lookup.3.0 ∙ ap Some (sym c.in-Some.ensures.lookup.1) in
    let same = same_Some c.in-Some.kept.now c.args.words.now (sym here ∙ at) in
    let equal : c.eq.result ≡ true = (slice_eq-Decides Decides-eqb c.as_slice.result.now c.args.words.now c.eq.result c.eq.ensures).1 (c.as_slice.ensures ∙ same) in
    absurd (cc (equal, unequal))

pub returns-in-None-clause-other : goal.returns-in-None-clause-other
returns-in-None-clause-other c = λ _ at.
    absurd (let a = c.in-None.ensures.lookup.3 in let b = slice_get_within c.args.items.now c.args.n c.args.words.now at in omega (arith, a, b))
