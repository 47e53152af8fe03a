use Rattle.std.proofs.Common.{◌≡◌, ◌∙◌, sym, arith, inl, inr, Some}
use Rattle.std.specs.Prelude.{slice_get}
use Rattle.ir_state_store.proofs.Found.{all_passed_none_found}
use Rattle.ir_state_store.proofs.table.find.Goals as goal

pub returns-in_err-n-clause-none : goal.returns-in_err-n-clause-none
returns-in_err-n-clause-none c = λ _ n at.
    all_passed_none_found c.args.index.now c.args.hash c.loop-steps.steps (λ k. slice_get c.args.rows.now.items k ≡ Some (c.args.thread.now, c.args.source.now))
    c.loop-steps.invariant (inl (sym c.at.ensures ∙ c.in_err-n.was)) n (c.requires.found n at) at

pub returns-clause-none : goal.returns-clause-none
returns-clause-none c = λ _ n at.
    all_passed_none_found c.args.index.now c.args.hash c.loop-steps.steps (λ k. slice_get c.args.rows.now.items k ≡ Some (c.args.thread.now, c.args.source.now))
    c.loop-steps.invariant (inr (let a = c.loop-steps-test.false in omega (arith, a))) n (c.requires.found n at) at
