use Rattle.std.proofs.Common.{◌≡◌, ◌+◌, ◌-◌, refl, sym, ◌∙◌, subst, arith}
use Rattle.ir_hunt.specs.Hunt.{hunt_of}
use Rattle.ir_hunt.specs.Tried.{Fails, AreTried}
use Rattle.ir_hunt.proofs.Parts.{left_out_at_most_tried, tried_with_one_left_out, tried_with_failing}
use Rattle.ir_hunt.proofs.tries.tried.Goals.{in-Ok-None, in-Err-TooLong}
use Rattle.ir_hunt.proofs.tries.tried.Goals as goal

pub returns-then-seed-last-clause-part : goal.returns-then-seed-last-clause-part
returns-then-seed-last-clause-part g c =
    let inv = c.seeds.invariant in
    let seed = c.seeds.seed in
    let first = c.args.seeds.first in
    let hunt = hunt_of c.args.seeker.now.image.now c.args.seeker.now.plan.now c.args.choices.now in
    let same : hunt_of c.seeds.seeker.image.now c.seeds.seeker.plan.now c.args.choices.now ≡ hunt = λ i. hunt_of (inv.image i).now (inv.plan i).now c.args.choices.now in
    let more : AreTried hunt first (seed + 1 - first) c.match-list_of_seed.left_out = elim c.match-list_of_seed.branch [
      | in-Ok-None w ↦ subst (AreTried hunt first (seed + 1 - first)) (sym w.left_out-is) (tried_with_failing hunt first seed c.seeds.left_out inv.from inv.tried
          (subst (λ h. Fails h seed) same (rw w.in-Ok-None.field-0-is at w.in-Ok-None.ensures.tried)))
      | in-Err-TooLong w ↦ subst (AreTried hunt first (seed + 1 - first)) (sym w.left_out-is) (tried_with_one_left_out hunt first seed c.seeds.left_out inv.from inv.tried)
    ] in record {
      begun = record {
        tried = subst (λ n. AreTried hunt first (n + 1 - first) c.match-list_of_seed.left_out) c.if-seed-last.true more;
        from = refl;
        within = omega arith;
      };
      all = λ none. refl;
    }

pub seeds-preserved : goal.seeds-preserved
seeds-preserved g c =
    let inv = c.seeds.invariant in
    let from = inv.from in
    let to = inv.to in
    let other = c.if-seed-last.false in
    let seed = c.seeds.seed in
    let first = c.args.seeds.first in
    let hunt = hunt_of c.args.seeker.now.image.now c.args.seeker.now.plan.now c.args.choices.now in
    let same : hunt_of c.seeds.seeker.image.now c.seeds.seeker.plan.now c.args.choices.now ≡ hunt = λ i. hunt_of (inv.image i).now (inv.plan i).now c.args.choices.now in
    let more : AreTried hunt first (seed + 1 - first) c.match-list_of_seed.left_out = elim c.match-list_of_seed.branch [
      | in-Ok-None w ↦ subst (AreTried hunt first (seed + 1 - first)) (sym w.left_out-is) (tried_with_failing hunt first seed c.seeds.left_out inv.from inv.tried
          (subst (λ h. Fails h seed) same (rw w.in-Ok-None.field-0-is at w.in-Ok-None.ensures.tried)))
      | in-Err-TooLong w ↦ subst (AreTried hunt first (seed + 1 - first)) (sym w.left_out-is) (tried_with_one_left_out hunt first seed c.seeds.left_out inv.from inv.tried)
    ] in record {
      image = c.list_of_seed.ensures.image ∙ inv.image;
      plan = c.list_of_seed.ensures.plan ∙ inv.plan;
      from = omega (arith, from);
      to = omega (arith, to, other);
      few = left_out_at_most_tried hunt first (seed + 1 - first) c.match-list_of_seed.left_out more;
      tried = more;
    }
