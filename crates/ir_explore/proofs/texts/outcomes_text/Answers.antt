use Rattle.std.proofs.Common.{◌≡◌, ◌+◌, ◌<◌, ◌++◌, suc, Some, length, sym, ap, ◌∙◌, subst, append_assoc, arith}
use Rattle.std.specs.Prelude.{slice_get}
use Rattle.std.proofs.lemmas.Option.{slice_get-get_or}
use Rattle.ir_state_store.specs.Nodes.{SourcedFlat}
use Rattle.ir_explore.specs.Texts.{IsOutcomeText, AreTexts, objects_in}
use Rattle.ir_explore.proofs.Joined.{texts_next_outcome}
use Rattle.ir_explore.proofs.texts.outcomes_text.Goals as goal

pub state_of-requires : goal.state_of-requires
state_of-requires c =
    let less : c.loop-i.i < length c.args.outcomes.now =
    (let a = c.loop-i-test.true in let b = c.loop-i.auto.i-end in let m = c.requires.until in omega (arith, a, b, m)) in
    let x = c.index-outcomes-i.result in
    c.requires.nodes c.loop-i.i x (slice_get-get_or c.args.outcomes.now c.loop-i.i x less ∙ ap Some (sym c.index-outcomes-i.is))

pub outcome_text-requires : goal.outcome_text-requires
outcome_text-requires c =
    subst (λ (z : SourcedFlat). length z.flat.objects ≡ length c.args.started.first.now) (sym c.state.view_is)
    (c.requires.objects c.index-outcomes-i.result.node c.in_ok-state.state c.in_ok-state.ensures.value)

pub loop-i-preserved : goal.loop-i-preserved
loop-i-preserved c =
    let less : c.loop-i.i < length c.args.outcomes.now =
    (let a = c.loop-i-test.true in let b = c.loop-i.auto.i-end in let m = c.requires.until in omega (arith, a, b, m)) in
    let x = c.index-outcomes-i.result in
    let s = c.in_ok-state.state in
    let at : slice_get c.args.outcomes.now c.loop-i.i ≡ Some x =
    slice_get-get_or c.args.outcomes.now c.loop-i.i x less ∙ ap Some (sym c.index-outcomes-i.is) in
    let next : c.loop-i.i + 1 ≡ suc c.loop-i.i = omega arith in
    let o = objects_in c.args.started in λ before first.
    subst (AreTexts o c.args.flats.now.items c.args.outcomes.now (c.loop-i.i + 1))
    (append_assoc before c.loop-i.text.items c.in_ok-own.own.items
    ∙ ap (λ z. before ++ z) (sym (c.in_ok-extend_from_slice.ensures.items ∙ ap (λ z. c.loop-i.text.items ++ z) c.as_slice.ensures.value)))
    (texts_next_outcome o c.args.flats.now.items c.args.outcomes.now c.loop-i.i (before ++ c.loop-i.text.items) c.in_ok-own.own.items x s
    (c.loop-i.invariant before first) (at, c.in_ok-state.ensures.value)
    (subst (λ z. IsOutcomeText o s.flat z x c.in_ok-own.own.items) next
    (subst (λ (z : SourcedFlat). IsOutcomeText o z.flat (c.loop-i.i + 1) x c.in_ok-own.own.items) c.state.view_is c.in_ok-own.ensures)))
