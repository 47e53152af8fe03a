use Rattle.std.proofs.Common.{◌≡◌, ◌+◌, ◌-◌, [], ◌∷◌, length, get_or, refl, sym, ap, ◌∙◌, subst, arith}
use Rattle.ir_search.specs.declared.origin.Origin.{Origin}
use Rattle.ir_search.specs.Origins.{first_origin}
use Rattle.ir_record.specs.Recording.{turns_of_items}
use Rattle.ir_outcomes.specs.Again.{IsAgainBy}
use Rattle.ir_outcomes.proofs.Again.{again_by_longer_path}
use Rattle.ir_outcomes.proofs.Along.{StandsBy, may_fail_by_one_more, path_to_last_turns, stands_by_all, stands_by_one_more}
use Rattle.ir_outcomes.proofs.Paths.{last_turns, last_turns-none, last_turns-next, last_turns-all}
use Rattle.ir_outcomes.specs.Path.{IsPathTo}
use Rattle.std.proofs.lemmas.Option.{slice_get-get_or}
use Rattle.ir_outcomes.proofs.rerun.add_path.Goals as goal

pub add_turn-requires : goal.add_turn-requires
add_turn-requires c =
    let path = c.args.path.now in
    let i = length path - 1 - c.loop-k.k in
    c.requires i (get_or path i first_origin) (slice_get-get_or path i first_origin (let l = c.loop-k-test.true in omega (arith, l)))

pub loop-k-init : goal.loop-k-init
loop-k-init c =
    let none = sym (last_turns-none c.args.path.now) in record {
      again = λ setup again.
          subst (λ z. IsAgainBy setup (turns_of_items c.args.items.now.items) c.args.table.now z c.args.state.now) none
          (record { ways = []; back = refl; again = again });
      stands = λ node from. subst (λ z. StandsBy from z c.args.state.now) none from.stands;
    }

pub loop-k-preserved : goal.loop-k-preserved
loop-k-preserved c =
    let path = c.args.path.now in
    let k = c.loop-k.k in
    let n : Origin = get_or path (length path - 1 - k) first_origin in
    let next : last_turns path (k + 1) ≡ n ∷ last_turns path k = last_turns-next path k first_origin c.loop-k-test.true in record {
      again = λ setup again.
          subst (λ z. IsAgainBy setup (turns_of_items c.add_turn.new.items.items) c.args.table.now z c.add_turn.new.state) (sym next)
          (again_by_longer_path setup (turns_of_items c.loop-k.items.items) (turns_of_items c.add_turn.new.items.items) c.args.table.now n
          (last_turns path k) c.loop-k.state c.add_turn.new.state (c.loop-k.invariant.again setup again) (c.in_default.ensures.again setup));
      stands = λ node from.
          subst (λ z. StandsBy from z c.add_turn.new.state) (sym next)
          (stands_by_one_more from n (last_turns path k) c.loop-k.state c.add_turn.new.state (c.loop-k.invariant.stands node from) c.in_default.ensures.arrives);
    }

pub returns-in-Err-clause-fails : goal.returns-in-Err-clause-fails
returns-in-Err-clause-fails c = λ node from.
    let path = c.args.path.now in
    let k = c.loop-k.k in
    let n : Origin = get_or path (length path - 1 - k) first_origin in
    let next : last_turns path (k + 1) ≡ n ∷ last_turns path k = last_turns-next path k first_origin c.loop-k-test.true in
    let r = path_to_last_turns from.origins node path (k + 1) (omega arith) (let l = c.loop-k-test.true in omega (arith, l)) from.leads in
    may_fail_by_one_more from c.args.limit n (last_turns path k) c.loop-k.state c.in-Err.e (c.loop-k.invariant.stands node from) c.in-Err.ensures.fails r.0
    (subst (IsPathTo from.origins r.0) next r.1)

pub returns-clause-again : goal.returns-clause-again
returns-clause-again c = λ setup again.
    let path = c.args.path.now in
    let all : c.loop-k.k ≡ length path = (let a = c.loop-k-test.false in let b = c.loop-k.auto.k-end in omega (arith, a, b)) in
    subst (λ z. IsAgainBy setup (turns_of_items c.loop-k.items.items) c.args.table.now z c.loop-k.state) (ap (last_turns path) all ∙ last_turns-all path)
    (c.loop-k.invariant.again setup again)

pub returns-clause-arrives : goal.returns-clause-arrives
returns-clause-arrives c = λ node from.
    let path = c.args.path.now in
    let all : c.loop-k.k ≡ length path = (let a = c.loop-k-test.false in let b = c.loop-k.auto.k-end in omega (arith, a, b)) in
    stands_by_all from path c.loop-k.state
    (subst (λ z. StandsBy from z c.loop-k.state) (ap (last_turns path) all ∙ last_turns-all path) (c.loop-k.invariant.stands node from)) from.leads
