use Rattle.std.proofs.Common.{List, subst}
use Rattle.ir_explore.specs.Texts.{known_of}
use Rattle.ir_outcomes.specs.declared.shown.Shown.{Shown}
use Rattle.ir_within.specs.Judging.{AreCompared, AreKept}
use Rattle.ir_within.specs.Plans.{aspects_of}
use Rattle.ir_within.proofs.Compared.{compared_with_kept, judged_if_compared}
use Rattle.ir_lemmas.proofs.CallerLemmas.{if_ok_of_implied}
use Rattle.ir_within.proofs.judging.judged.Goals as goal

pub returns : goal.returns
returns c =
    let a = aspects_of c.args.aspects in
    let image = known_of c.args.image.now in
    let other = known_of c.args.other.now in
    let kept = subst (λ (z : List Shown). AreKept a other.flats z c.in_ok-others.others) c.as_slice.ensures.value c.in_ok-others.ensures in
    if_ok_of_implied _ _ c.outside.result (λ v compared. λ guest others plan known others_known.
    judged_if_compared a guest others plan image other kept.0 v.items known others_known kept.1
    (compared_with_kept a image.flats image.outcomes c.in_ok-others.others kept.0 v.items kept.2
    (subst (λ (z : List Shown). AreCompared a image.flats z c.in_ok-others.others v.items) c.as_slice-2.ensures.value compared))) c.outside.ensures
