use Rattle.std.proofs.Common.{List, length, subst}
use Rattle.ir_explore.specs.Texts.{known_of}
use Rattle.ir_outcomes.specs.declared.shown.Shown.{Shown}
use Rattle.ir_within.specs.Classes.{AreFirsts}
use Rattle.ir_within.specs.Plans.{aspects_of}
use Rattle.ir_within.proofs.Firsts.{classes_if_first}
use Rattle.ir_lemmas.proofs.CallerLemmas.{if_ok_of_implied}
use Rattle.ir_within.proofs.classes.classes_of.Goals as goal

pub returns : goal.returns
returns c =
    let a = aspects_of c.args.aspects in
    let k = known_of c.args.found.now in
    if_ok_of_implied _ _ c.firsts.result (λ v firsts. λ guest plan known.
    let marked = subst (λ (z : List Shown). AreFirsts a k.flats z v.items) c.as_slice.ensures.value firsts in
    classes_if_first a guest plan k marked.0 (length marked.0) v.items known marked.1 marked.1.count marked.2) c.firsts.ensures
