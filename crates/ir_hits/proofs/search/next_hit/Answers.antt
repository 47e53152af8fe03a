use Rattle.std.proofs.Common.{◌≡◌, ◌∙◌, ◌<◌, ◌-◌, ap, arith}
use Rattle.ir_image.specs.Guest.{Guest}
use Rattle.ir_weave.specs.Standing.{flat_in, positions}
use Rattle.ir_command.specs.declared.hit.Hit.{Hit}
use Rattle.ir_hits.proofs.Standing.{steps_are_position}
use Rattle.ir_hits.proofs.Onward.{passed_is_passage, lowest_is_next_hit, no_hit_through_passage}
use Rattle.ir_hits.proofs.search.next_hit.Goals as goal

pub returns-in-Some-clause-hit : goal.returns-in-Some-clause-hit
returns-in-Some-clause-hit g c =
    let f = c.args.search.fitted.now in
    let t = c.args.search.t in
    let old = c.steps.state in
    let new = c.take_steps.new.state in
    let h : Hit = record { position = c.steps-position.result; number = c.in-Some.number } in
    let x = c.thread_of-in-steps in
    let y = c.thread_of-thread in
    let same = c.code-code.ensures.value ∙ ap (λ (g : Guest). g.code) c.image.ensures.value in
    let passage = passed_is_passage f c.args.search.last.now c.args.search.code.now c.args.search.points.now c.note_all.new.notes t c.args.search.to old new c.code-code.result.now x.result.now
    same x.ensures c.requires.search.ends c.requires.search.words c.requires.search.covered c.steps.invariant.stands c.take_steps.ensures.stands
    c.in_ok-take_steps.ensures.passed c.note_all.ensures in
    lowest_is_next_hit f c.args.search.last.now c.args.search.code.now c.args.search.points.now c.note_all.new.notes t c.args.search.to old new c.position-end.result
    (positions (flat_in f c.args.state.now) t) y.result.now h y.ensures passage c.position-end.ensures c.steps.invariant.above
    c.steps.invariant.none c.lowest.result c.in-Some.is c.lowest.ensures
    (steps_are_position f new t c.steps-position.result y.result.now y.ensures c.steps-position.ensures.value)

pub steps-preserved : goal.steps-preserved
steps-preserved g c =
    let f = c.args.search.fitted.now in
    let t = c.args.search.t in
    let old = c.steps.state in
    let new = c.take_steps.new.state in
    let x = c.thread_of-in-steps in
    let y = c.thread_of-thread in
    let same = c.code-code.ensures.value ∙ ap (λ (g : Guest). g.code) c.image.ensures.value in
    let above = c.steps.invariant.above in
    let passed = c.in_ok-take_steps.ensures.passed in
    let passage = passed_is_passage f c.args.search.last.now c.args.search.code.now c.args.search.points.now c.note_all.new.notes t c.args.search.to old new c.code-code.result.now x.result.now
    same x.ensures c.requires.search.ends c.requires.search.words c.requires.search.covered c.steps.invariant.stands c.take_steps.ensures.stands passed
    c.note_all.ensures in
    record {
      stands = c.take_steps.ensures.stands;
      within = passed.within;
      above = omega (arith, above, passed.taken);
      none = no_hit_through_passage f c.args.search.last.now c.args.search.code.now c.args.search.points.now c.note_all.new.notes t c.args.search.to old new
          c.position-end.result (positions (flat_in f c.args.state.now) t) y.result.now y.ensures passage c.position-end.ensures
          c.steps.invariant.none c.lowest.result c.in_default.is c.lowest.ensures;
      size = c.note_all.ensures.size;
    }

pub returns-clause-hit : goal.returns-clause-hit
returns-clause-hit g c run whole j n low high h =
    let here : c.steps-in-steps.result ≡ positions (flat_in c.args.search.fitted.now c.steps.state) c.args.search.t =
    steps_are_position c.args.search.fitted.now c.steps.state c.args.search.t c.steps-in-steps.result c.thread_of.result.now c.thread_of.ensures
    c.steps-in-steps.ensures.value in
    c.steps.invariant.none run whole j n low (omega (arith, high, here, c.steps-test.false)) h

pub steps-smaller : goal.steps-smaller
steps-smaller g c =
    let f = c.args.search.fitted.now in
    let old = positions (flat_in f c.steps.state) c.args.search.t in
    let new = positions (flat_in f c.take_steps.new.state) c.args.search.t in
    let passed = c.in_ok-take_steps.ensures.passed in
    let less : c.args.search.to - new < c.args.search.to - old = omega (arith, passed.taken, passed.some, passed.within) in
    less
