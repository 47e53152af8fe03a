use Rattle.std.proofs.Common.{◌<◌, ◌≤◌, None, length, sym, ap, ◌∙◌, arith}
use Rattle.std.specs.List.{slice_index_or}
use Rattle.ir_graph.proofs.Alike.{slice_index_past_length}
use Rattle.ir_graph.proofs.Entries.{noted_in_is_row_element, slice_index_any_default}
use Rattle.ir_graph.proofs.Grown.{past_threads_nowhere}
use Rattle.ir_graph.proofs.notes.known.Goals as goal

pub returns-then-thread-rows : goal.returns-then-thread-rows
returns-then-thread-rows c =
    sym (past_threads_nowhere c.args.rows.now c.args.thread c.args.node (let a = c.if-thread-rows.true in omega (arith, a)))

pub returns-then-node-len : goal.returns-then-node-len
returns-then-node-len c =
    let row = c.index-rows-thread.result in
    let few : c.args.thread < length c.args.rows.now = (let a = c.if-thread-rows.false in omega (arith, a)) in
    let l : c.args.node < length row.items =
    (let a = c.if-node-len.true in let b = c.len.ensures in let d = row.ok.0 in omega (arith, a, b, d)) in
    c.known.ensures ∙ c.index.ensures ∙ slice_index_any_default row.items c.args.node c.index.result.now None l
    ∙ ap (λ z. slice_index_or z.items c.args.node None) c.index-rows-thread.is
    ∙ sym (noted_in_is_row_element c.args.rows.now c.args.thread c.args.node row few)

pub returns-else-node-len : goal.returns-else-node-len
returns-else-node-len c =
    let row = c.index-rows-thread.result in
    let few : c.args.thread < length c.args.rows.now = (let a = c.if-thread-rows.false in omega (arith, a)) in
    let l : length row.items ≤ c.args.node =
    (let a = c.if-node-len.false in let b = c.len.ensures in let d = row.ok.0 in omega (arith, a, b, d)) in
    sym (noted_in_is_row_element c.args.rows.now c.args.thread c.args.node row few
    ∙ sym (ap (λ z. slice_index_or z.items c.args.node None) c.index-rows-thread.is) ∙ slice_index_past_length row.items c.args.node None l)
