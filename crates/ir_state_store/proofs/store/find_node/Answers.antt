use Rattle.std.proofs.Common.{◌∙◌, sym, arith, inl, inr}
use Rattle.ir_state_store.proofs.Numbered.{all_passed_no_node}
use Rattle.ir_state_store.proofs.store.find_node.Goals as goal

pub returns-in_err-v-clause-none : goal.returns-in_err-v-clause-none
returns-in_err-v-clause-none c = λ _.
    all_passed_no_node c.args.index.now c.args.table.now.looks c.args.nodes.now c.args.node.now c.hash_of-hash.result c.loop-steps.steps c.requires.found
    c.hash_of-hash.ensures c.loop-steps.invariant (inl (sym c.at.ensures ∙ c.in_err-v.was))

pub returns-clause-none : goal.returns-clause-none
returns-clause-none c = λ _.
    all_passed_no_node c.args.index.now c.args.table.now.looks c.args.nodes.now c.args.node.now c.hash_of-hash.result c.loop-steps.steps c.requires.found
    c.hash_of-hash.ensures c.loop-steps.invariant (inr (let a = c.loop-steps-test.false in omega (arith, a)))
