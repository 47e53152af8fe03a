use Rattle.std.proofs.Common.{◌∙◌, sym, arith, inl, inr}
use Rattle.ir_state_store.proofs.Alike.{all_passed_none_like}
use Rattle.ir_state_store.proofs.table.look_for.Goals as goal

pub returns-in_err-m-clause-none : goal.returns-in_err-m-clause-none
returns-in_err-m-clause-none c = λ _ n x at like.
    all_passed_none_like c.args.rows.now c.args.seen.now (c.args.thread.now, c.args.source.now) c.args.hash c.loop-steps.steps c.requires.look c.each.ensures.looks
    c.requires.hash c.loop-steps.invariant (inl (sym c.at.ensures ∙ c.in_err-m.was)) n x at like

pub returns-clause-none : goal.returns-clause-none
returns-clause-none c = λ _ n x at like.
    all_passed_none_like c.args.rows.now c.args.seen.now (c.args.thread.now, c.args.source.now) c.args.hash c.loop-steps.steps c.requires.look c.each.ensures.looks
    c.requires.hash c.loop-steps.invariant (inr (let a = c.loop-steps-test.false in omega (arith, a))) n x at like
