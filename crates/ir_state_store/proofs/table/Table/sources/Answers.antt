use Rattle.std.proofs.Common.{◌∙◌, ap, get_or}
use Rattle.ir_state_store.specs.Table.{idle_beside}
use Rattle.ir_state_store.specs.Table as table
use Rattle.ir_state_store.proofs.Lists.{push_is_map_take}
use Rattle.ir_state_store.proofs.table.Table.sources.Goals as goal

pub loop-n-preserved : goal.loop-n-preserved
loop-n-preserved c =
    let i = c.loop-n.n-index in
    let numbers = c.args.numbers.now in
    c.in_ok-push.ensures.items
    ∙ push_is_map_take (λ k. (get_or c.args.self.now.items k idle_beside).1) numbers c.loop-n.sources.items c.in_ok-source.source i 0
    c.loop-n-test.true c.loop-n.invariant
    (c.in_ok-source.ensures ∙ ap (λ (z : table.Table). (get_or z.items (get_or numbers i 0) idle_beside).1) c.self.view_is)
