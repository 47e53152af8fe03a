use Rattle.std.proofs.Common.{◌≡◌, ◌<◌, ◌+◌, suc, Some, map, length, sym, ap, ◌∙◌, subst, arith}
use Rattle.std.specs.Prelude.{slice_get}
use Rattle.std.proofs.lemmas.Option.{slice_get-get_or}
use Rattle.std.specs.List.{list_all}
use Rattle.ir_schedule.specs.Conditions.{as_condition, fulfils, end_state}
use Rattle.ir_state_store.specs.Nodes.{SourcedFlat}
use Rattle.ir_explore.specs.Conditions.{NoneBefore}
use Rattle.ir_explore.proofs.Fulfilled.{none_before_step, declared_as_outcome}
use Rattle.ir_explore.proofs.conditions.first_fulfilling.Goals as goal

pub state_of-requires : goal.state_of-requires
state_of-requires c =
    let less : c.loop-i.i < length c.args.outcomes.now = (let a = c.loop-i-test.true in let b = c.loop-i.auto.i-end in omega (arith, a, b)) in
    let x = c.index-outcomes-i.result in
    c.requires c.loop-i.i x (slice_get-get_or c.args.outcomes.now c.loop-i.i x less ∙ ap Some (sym c.index-outcomes-i.is))

pub returns-then-fulfils : goal.returns-then-fulfils
returns-then-fulfils c = λ setup reached.
    let less : c.loop-i.i < length c.args.outcomes.now = (let a = c.loop-i-test.true in let b = c.loop-i.auto.i-end in omega (arith, a, b)) in
    let x = c.index-outcomes-i.result in
    let s = c.in_ok-state.state in
    let at : slice_get c.args.outcomes.now c.loop-i.i ≡ Some x =
    slice_get-get_or c.args.outcomes.now c.loop-i.i x less ∙ ap Some (sym c.index-outcomes-i.is) in (
      c.loop-i.invariant setup reached,
      (
        x,
        s,
        (at, c.in_ok-state.ensures.value),
        sym (declared_as_outcome setup c.args.conditions.now s (reached x.node s c.in_ok-state.ensures.value) c.in_ok-state.ensures.flat)
            ∙ ap (λ (z : SourcedFlat). list_all (λ d. fulfils (as_condition d) (end_state z.flat)) c.args.conditions.now) (sym c.state.view_is)
            ∙ sym c.fulfils.ensures ∙ c.if-fulfils.true,
      ),
    )

pub loop-i-preserved : goal.loop-i-preserved
loop-i-preserved c = λ setup reached.
    let less : c.loop-i.i < length c.args.outcomes.now = (let a = c.loop-i-test.true in let b = c.loop-i.auto.i-end in omega (arith, a, b)) in
    let x = c.index-outcomes-i.result in
    let s = c.in_ok-state.state in
    let cs = map as_condition c.args.conditions.now in
    let at : slice_get c.args.outcomes.now c.loop-i.i ≡ Some x =
    slice_get-get_or c.args.outcomes.now c.loop-i.i x less ∙ ap Some (sym c.index-outcomes-i.is) in
    let next : suc c.loop-i.i ≡ c.loop-i.i + 1 = omega arith in
    subst (NoneBefore setup.guest cs c.args.flats.now.items c.args.outcomes.now) next
    (none_before_step setup.guest cs c.args.flats.now.items c.args.outcomes.now c.loop-i.i x s (c.loop-i.invariant setup reached) (at, c.in_ok-state.ensures.value)
    (sym (declared_as_outcome setup c.args.conditions.now s (reached x.node s c.in_ok-state.ensures.value) c.in_ok-state.ensures.flat)
    ∙ ap (λ (z : SourcedFlat). list_all (λ d. fulfils (as_condition d) (end_state z.flat)) c.args.conditions.now) (sym c.state.view_is)
    ∙ sym c.fulfils.ensures ∙ c.if-fulfils.false))

pub returns : goal.returns
returns c = λ setup reached i x s less at.
    c.loop-i.invariant setup reached i x s
    (let a = c.loop-i-test.false in let b = c.loop-i.auto.i-end in omega (arith, less, a, b)) at
