use Rattle.std.proofs.Common.{◌+◌, sym, ap, ◌∙◌}
use Rattle.std.specs.Prelude.{◌&&◌, drop}
use Rattle.ir_state_store.specs.Table.{threads_at, all_over}
use Rattle.ir_state_store.proofs.Looks.{all_over_threads_step}
use Rattle.ir_state_store.proofs.table.Table.all_over.Goals as goal

pub returns-then-not-over : goal.returns-then-not-over
returns-then-not-over c =
    let items = c.args.self.now.items in
    let numbers = c.args.numbers.now in
    let i = c.loop-n.n-index in
    ap (λ b. b && all_over (threads_at items (drop (i + 1) numbers))) (sym c.if-not-over.true)
    ∙ all_over_threads_step items numbers i c.over.result c.loop-n-test.true c.over.ensures c.loop-n.invariant

pub loop-n-preserved : goal.loop-n-preserved
loop-n-preserved c =
    let items = c.args.self.now.items in
    let numbers = c.args.numbers.now in
    let i = c.loop-n.n-index in
    ap (λ b. b && all_over (threads_at items (drop (i + 1) numbers))) (sym c.if-not-over.false)
    ∙ all_over_threads_step items numbers i c.over.result c.loop-n-test.true c.over.ensures c.loop-n.invariant
