use Rattle.std.proofs.Common.{◌≡◌, length, drop, sym, subst, arith}
use Rattle.std.proofs.lemmas.List.{take_at}
use Rattle.ir_diff.specs.Common.{AreCommon}
use Rattle.ir_diff.proofs.Parts.{none_follow_is_common}
use Rattle.ir_diff.proofs.common.common_part.Goals as goal

pub returns : goal.returns
returns c =
    let a = c.args.a.now in
    let b = c.args.b.now in
    let new = c.pass.new.part in
    let built = c.pass.ensures.built in
    let size : length new ≡ c.passes.part.len =
    let now = built.size in let was = c.passes.invariant.size in let len = c.passes.part.ok.0 in omega (arith, now, was, len) in
    subst (AreCommon a b) (sym (take_at new (drop (length new) c.passes.part.items) c.passes.part.len size))
    (none_follow_is_common a b new built (c.pass.ensures.rests c.passes-test.false))
