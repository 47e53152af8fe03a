use Rattle.std.proofs.Common.{◌<◌, ◌+◌, length, sym, ◌∙◌, subst, arith}
use Rattle.std.proofs.lemmas.Option.{slice_get_within}
use Rattle.ir_lemmas.proofs.CallerLemmas.{element_below_length}
use Rattle.ir_graph.proofs.Ended.{AreEnded, are_ended_step}
use Rattle.ir_graph.proofs.Over.{is_done_if_all_over, not_done_not_all_over}
use Rattle.ir_graph.proofs.marks.done_states.Goals as goal

pub loop-v-preserved : goal.loop-v-preserved
loop-v-preserved c =
    let flats = c.args.flats.now.items in
    let less : c.loop-v.v < length flats = (let a = c.loop-v-test.true in let b = c.loop-v.auto.v-end in omega (arith, a, b)) in
    let f = element_below_length flats c.loop-v.v less in
    let is = c.is_over.ensures f.0 f.1 in
    subst (AreEnded flats (c.loop-v.v + 1)) (sym c.in_ok-push.ensures.items)
    (are_ended_step flats c.loop-v.v c.loop-v.done.items f.0 c.is_over.result c.loop-v.invariant f.1 (λ e. is_done_if_all_over f.0.flat (sym is ∙ e))
    (λ e. not_done_not_all_over f.0.flat (sym is ∙ e)))

pub returns-clause-nodes : goal.returns-clause-nodes
returns-clause-nodes c =
    let a = c.loop-v.invariant.nodes in let b = c.loop-v-test.false in let d = c.loop-v.auto.v-end in omega (arith, a, b, d)

pub returns-clause-done : goal.returns-clause-done
returns-clause-done c = c.loop-v.invariant.ended

pub returns-clause-marked : goal.returns-clause-marked
returns-clause-marked c = λ v f at.
    let l = slice_get_within c.args.flats.now.items v f at in
    c.loop-v.invariant.marked v f (let b = c.loop-v-test.false in let d = c.loop-v.auto.v-end in omega (arith, l, b, d)) at
