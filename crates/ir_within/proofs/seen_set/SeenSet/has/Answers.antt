use Rattle.std.proofs.Common.{subst, sym, ◌∙◌}
use Rattle.ir_within.specs.Judging.{HasSame}
use Rattle.ir_within.specs.Seen.{value_of}
use Rattle.ir_within.specs.contracts.seen.SeenPartialEq.TheImpl as seen_eq
use Rattle.ir_within.proofs.Kept.{value_is_decided, same_if_any, any_if_same}
use Rattle.ir_within.proofs.seen_set.SeenSet.has.Goals as goal

pub returns-clause-some : goal.returns-clause-some
returns-clause-some c = λ yes.
    subst (λ z. HasSame z (value_of c.args.one.now)) c.self.view_is
    (same_if_any (seen_eq.ghosts).eq value_is_decided c.args.one.now c.self.inside.kept.keys (sym c.contains.ensures ∙ yes))

pub returns-clause-none : goal.returns-clause-none
returns-clause-none c = λ no has.
    absurd (cc (sym no ∙ c.contains.ensures
    ∙ any_if_same (seen_eq.ghosts).eq value_is_decided c.args.one.now c.self.inside.kept.keys (subst (λ z. HasSame z (value_of c.args.one.now)) (sym c.self.view_is) has)))
