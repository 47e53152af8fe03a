use Rattle.std.proofs.Common.{map, subst, sym, ap, ◌∙◌, not}
use Rattle.std.specs.Prelude.{List}
use Rattle.std.specs.List.{list_any}
use Rattle.indexmap.specs.IndexSet.{insert_key}
use Rattle.ir_schedule.specs.Conditions.{EndState}
use Rattle.ir_within.specs.Judging.{HasSame, HoldsAlso}
use Rattle.ir_within.specs.Seen.{value_of}
use Rattle.ir_within.specs.declared.seen.Seen.{Seen}
use Rattle.ir_within.specs.contracts.seen.SeenPartialEq.TheImpl as seen_eq
use Rattle.ir_within.proofs.Kept.{value_is_decided, same_if_any, any_if_same, also_if_inserted}
use Rattle.ir_within.proofs.Compared.{true_if_not_false}
use Rattle.ir_within.proofs.seen_set.SeenSet.add.Goals as goal

pub returns-clause-also : goal.returns-clause-also
returns-clause-also c =
    let k = c.args.one in
    subst (λ (z : List Seen). HoldsAlso c.args.self.now (value_of k) (map value_of z)) (sym c.in_ok-is_new.ensures.keys)
    (subst (λ (z : List EndState). HoldsAlso z (value_of k) (map value_of (insert_key (seen_eq.ghosts).eq c.self.inside.kept.keys k))) c.self.view_is
    (also_if_inserted (seen_eq.ghosts).eq value_is_decided k c.self.inside.kept.keys))

pub returns-clause-known : goal.returns-clause-known
returns-clause-known c = λ old.
    subst (λ z. HasSame z (value_of c.args.one)) c.self.view_is
    (same_if_any (seen_eq.ghosts).eq value_is_decided c.args.one c.self.inside.kept.keys
    (true_if_not_false (list_any ((seen_eq.ghosts).eq c.args.one) c.self.inside.kept.keys) (sym c.in_ok-is_new.ensures.added ∙ old)))

pub returns-clause-fresh : goal.returns-clause-fresh
returns-clause-fresh c = λ new has.
    absurd (cc (sym new ∙ c.in_ok-is_new.ensures.added ∙ ap not (
    any_if_same (seen_eq.ghosts).eq value_is_decided c.args.one c.self.inside.kept.keys (subst (λ z. HasSame z (value_of c.args.one)) (sym c.self.view_is) has))))
