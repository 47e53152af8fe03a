use Rattle.std.proofs.Common.{◌≡◌, ◌∙◌, sym, subst, arith, inl, inr, Some}
use Rattle.std.specs.Prelude.{slice_get}
use Rattle.ir_state_store.specs.Hashes.{IsFoundBy}
use Rattle.ir_state_store.proofs.Found.{all_passed_none_found}
use Rattle.ir_state_store.proofs.words.find.Goals as goal

pub returns-in_err-n-clause-none : goal.returns-in_err-n-clause-none
returns-in_err-n-clause-none c = λ _ n at.
    all_passed_none_found c.args.index.now c.args.hash c.loop-steps.steps (λ k. slice_get c.args.items.now k ≡ Some c.args.words.now) c.loop-steps.invariant
    (inl (sym c.at.ensures ∙ c.in_err-n.was)) n (subst (λ h. IsFoundBy c.args.index.now h n) (sym c.requires.hash) (c.requires.found n c.args.words.now at)) at

pub returns-clause-none : goal.returns-clause-none
returns-clause-none c = λ _ n at.
    all_passed_none_found c.args.index.now c.args.hash c.loop-steps.steps (λ k. slice_get c.args.items.now k ≡ Some c.args.words.now) c.loop-steps.invariant
    (inr (let a = c.loop-steps-test.false in omega (arith, a))) n (subst (λ h. IsFoundBy c.args.index.now h n) (sym c.requires.hash) (c.requires.found n c.args.words.now at)) at
