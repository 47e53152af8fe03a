use Rattle.std.proofs.Common.{sym, subst, ◌∙◌, rules, Err}
use Rattle.ir_image.specs.declared.form.ImageForm.{ImageForm}
use Rattle.ir_image.specs.Guest.{Guest}
use Rattle.ir_asm.specs.Passes.{second_pass}
use Rattle.ir_asm.specs.Answered.{AnswersSource}
use Rattle.ir_asm.specs.Bounds.{HasFewWords}
use Rattle.ir_asm.proofs.Kept.{get_or_has_property, second_pass_put_step, second_pass_put_refused, put_keeps_form, put_keeps_word_count}
use Rattle.ir_asm.proofs.second_pass.second_pass.Goals as goal

pub put-requires-clause-few : goal.put-requires-clause-few
put-requires-clause-few c =
    let x = c.placed-item.result in
    subst (λ (f : ImageForm). HasFewWords f x.item) (sym c.loop-placed.invariant.form)
    (subst (λ y. HasFewWords c.args.parts.now.form y.item) (sym c.placed-item.is)
    (get_or_has_property (λ y. HasFewWords c.args.parts.now.form y.item) c.args.all.now c.loop-placed.placed-index x c.loop-placed-test.true
    c.requires.few))

pub returns-in-Err : goal.returns-in-Err
returns-in-Err c =
    let x = c.placed-item.result in
    let whole_is : (view : Unit {0} → Guest) → AnswersSource view (Err c.at_line.result)
    (second_pass c.args.scan.now c.args.all.now c.args.parts.now) =
    λ view. second_pass_put_refused {X = Unit {0}} view c.args.scan.now c.args.all.now c.loop-placed.placed-index x c.loop-placed.parts
    c.put.new.parts c.in-Err.refusal c.at_line.result _ c.loop-placed-test.true c.placed-item.is c.at_line.ensures c.in-Err.ensures
    c.loop-placed.invariant.whole_is in
    search (rules, whole_is)

pub loop-placed-preserved : goal.loop-placed-preserved
loop-placed-preserved c =
    let x = c.placed-item.result in
    let few : HasFewWords c.loop-placed.parts.form x.item =
    subst (λ (f : ImageForm). HasFewWords f x.item) (sym c.loop-placed.invariant.form)
    (subst (λ y. HasFewWords c.args.parts.now.form y.item) (sym c.placed-item.is)
    (get_or_has_property (λ y. HasFewWords c.args.parts.now.form y.item) c.args.all.now c.loop-placed.placed-index x c.loop-placed-test.true
    c.requires.few)) in
    record {
      whole_is = second_pass_put_step c.args.scan.now c.args.all.now c.loop-placed.placed-index x c.loop-placed.parts c.put.new.parts _
          c.loop-placed-test.true c.placed-item.is c.in-Ok.ensures c.loop-placed.invariant.whole_is;
      there = put_keeps_word_count c.args.scan.now x.address x.item c.loop-placed.parts c.put.new.parts few c.loop-placed.invariant.there
          c.in-Ok.ensures;
      form = put_keeps_form c.args.scan.now x.address x.item c.loop-placed.parts c.put.new.parts few c.loop-placed.invariant.there
          c.in-Ok.ensures ∙ c.loop-placed.invariant.form;
    }
