use Rattle.std.proofs.Common.{◌≡◌, ◌+◌, ◌<◌, ◌++◌, suc, true, false, List, Some, length, sym, ap, ◌∙◌, subst, arith}
use Rattle.std.specs.Prelude.{slice_get}
use Rattle.std.proofs.lemmas.Option.{slice_get-get_or}
use Rattle.ir_explore.specs.Texts.{IsOutcomeText, known_of, objects_in}
use Rattle.ir_outcomes.specs.declared.shown.Shown.{Shown}
use Rattle.ir_state_store.specs.Nodes.{SourcedFlat}
use Rattle.ir_within.specs.Within.{AreMarkedTexts}
use Rattle.ir_within.proofs.Lines.{marked_texts_step, inside_texts_step}
use Rattle.ir_within.proofs.texts.marked_text.Goals as goal
use Rattle.ir_within.proofs.texts.marked_text.Goals.{then-outside-i+in_ok-state+in_ok-own+in_ok-extend_from_slice, else-outside-i}

pub loop-i-preserved : goal.loop-i-preserved
loop-i-preserved c =
    let k = known_of c.args.explored.now in
    let o = objects_in c.args.started in
    let outside = c.args.outside.now in
    let i = c.loop-i.i in
    let xs = c.as_slice-outcomes.result.now in
    let count = c.requires.count in
    let size = ap (λ (z : List Shown). length z) c.as_slice-outcomes.ensures.value in
    let end = c.loop-i.auto.i-end in
    let test = c.loop-i-test.true in
    let less : i < length xs = omega (arith, end, test) in
    let marked : i < length outside = omega (arith, end, test, count, size) in
    elim c.if-outside-i.branch [
      | then-outside-i+in_ok-state+in_ok-own+in_ok-extend_from_slice w ↦
          let x = w.index-outcomes-i.result in
          let s = w.in_ok-state.state in
          let own = w.in_ok-own.own.items in
          let at : slice_get k.outcomes i ≡ Some x =
          subst (λ (z : List Shown). slice_get z i ≡ Some x) c.as_slice-outcomes.ensures.value (slice_get-get_or xs i x less ∙ ap Some (sym w.index-outcomes-i.is)) in
          let mark : slice_get outside i ≡ Some true = slice_get-get_or outside i false marked ∙ ap Some w.if-outside-i.true in
          let next : i + 1 ≡ suc i = omega arith in
          subst (AreMarkedTexts o k outside (i + 1)) (sym (
          ap (λ z. z.items) w.text-is ∙ w.in_ok-extend_from_slice.ensures.items ∙ ap (λ z. c.loop-i.text.items ++ z) w.as_slice.ensures.value
          ))
          (marked_texts_step o k outside i c.loop-i.text.items own x s c.loop-i.invariant (at, w.in_ok-state.ensures.value) mark
          (subst (λ z. IsOutcomeText o s.flat z x own) next
          (subst (λ (z : SourcedFlat). IsOutcomeText o z.flat (i + 1) x own) w.state.view_is w.in_ok-own.ensures)))
      | else-outside-i w ↦
          let mark : slice_get outside i ≡ Some false = slice_get-get_or outside i false marked ∙ ap Some w.if-outside-i.false in
          subst (AreMarkedTexts o k outside (i + 1)) (sym (ap (λ z. z.items) w.text-is))
          (inside_texts_step o k outside i c.loop-i.text.items c.loop-i.invariant mark)
    ]
