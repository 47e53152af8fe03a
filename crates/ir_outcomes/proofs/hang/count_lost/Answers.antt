use Rattle.std.proofs.Common.{◌≡◌, ◌+◌, suc, false, take, sym, ap, ◌∙◌, subst, arith}
use Rattle.std.proofs.lemmas.List.{take_all}
use Rattle.ir_search.specs.Ways.{shut}
use Rattle.ir_outcomes.proofs.Lost.{shut_of_empty, shut_take_marked, shut_take_unmarked}
use Rattle.ir_outcomes.proofs.hang.count_lost.Goals as goal
use Rattle.ir_outcomes.proofs.hang.count_lost.Goals.{then-not-marks-v, else-not-marks-v}

pub loop-v-init : goal.loop-v-init
loop-v-init c = record { count = shut_of_empty; few = omega arith }

pub loop-v-preserved : goal.loop-v-preserved
loop-v-preserved c =
    let marks = c.args.marks.now in
    let less = c.loop-v-test.true in
    let more : suc c.loop-v.v ≡ c.loop-v.v + 1 = omega arith in
    let count = c.loop-v.invariant.count in
    let few = c.loop-v.invariant.few in
    elim c.if-not-marks-v.branch [
      | then-not-marks-v w ↦
          let one = shut_take_unmarked marks c.loop-v.v false less w.if-not-marks-v.true in
          let lost = w.lost-is in record {
            count = subst (λ z. c.if-not-marks-v.lost ≡ shut (take z c.args.marks.now)) more (omega (arith, count, one, lost));
            few = omega (arith, few, lost);
          }
      | else-not-marks-v w ↦
          let one = shut_take_marked marks c.loop-v.v false less w.if-not-marks-v.false in
          let lost = w.lost-is in record {
            count = subst (λ z. c.if-not-marks-v.lost ≡ shut (take z c.args.marks.now)) more (lost ∙ count ∙ sym one);
            few = omega (arith, few, lost);
          }
    ]

pub returns : goal.returns
returns c = c.loop-v.invariant.count ∙ ap shut (take_all c.loop-v.v c.args.marks.now c.loop-v-test.false)
