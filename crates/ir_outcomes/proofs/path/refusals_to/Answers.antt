use Rattle.std.proofs.Common.{◌≡◌, ◌-◌, ◌++◌, suc, [], sym, subst, arith}
use Rattle.std.specs.List.{slice_index_or}
use Rattle.ir_search.specs.declared.origin.Refusal.{Refusal}
use Rattle.ir_search.specs.Origins.{AreWaysUnder, Whole}
use Rattle.ir_outcomes.specs.Path.{ways_of}
use Rattle.ir_outcomes.proofs.Paths.{refusal_at_number, ways_under_step}
use Rattle.ir_outcomes.proofs.path.refusals_to.Goals as goal

pub back-preserved : goal.back-preserved
back-preserved c =
    let table = c.args.table.now in
    let none : Refusal = record { before = 0; entries = 0 } in
    let some = c.back-test.true in
    let left : c.back.left ≡ suc (c.back.left - 1) = omega (arith, some) in
    let r = refusal_at_number table c.back.left none some c.back.invariant.under.0 c.back.invariant.under.1 in
    record {
      ways = λ ways before.
          subst (λ z. AreWaysUnder table c.args.number (ways ++ ways_of z)) (sym c.in_ok-push.ensures.items)
          (ways_under_step table c.back.refusals.items c.args.number (c.back.left - 1) (slice_index_or table (c.back.left - 1) none)
          r.1 r.2 (λ us spelled. c.back.invariant.ways us (subst (λ z. AreWaysUnder table z us) (sym left) spelled)) ways before);
      under = (r.3, r.4);
    }

pub back-smaller : goal.back-smaller
back-smaller c =
    let some = c.back-test.true in
    let r = refusal_at_number c.args.table.now c.back.left (record { before = 0; entries = 0 }) some c.back.invariant.under.0 c.back.invariant.under.1 in
    let low = r.2 in omega (arith, some, low)

pub returns : goal.returns
returns c =
    let over = c.back-test.false in
    let none : 0 ≡ c.back.left = omega (arith, over) in
    c.back.invariant.ways [] (subst (λ z. AreWaysUnder c.args.table.now z []) none Whole)
