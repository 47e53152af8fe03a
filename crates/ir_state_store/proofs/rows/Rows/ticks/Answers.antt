use Rattle.std.proofs.Common.{ap, ◌∙◌, sym, subst, get_or, length, ◌<◌}
use Rattle.ir_world.specs.Sources.{Source}
use Rattle.ir_thread.specs.State.{ThreadState}
use Rattle.ir_state_store.specs.Rows.{beside_in}
use Rattle.ir_state_store.specs.Table.{idle_beside}
use Rattle.ir_state_store.specs.Table as table
use Rattle.ir_state_store.proofs.Rowed.{looked_up_row_is_get_or}
use Rattle.ir_state_store.proofs.rows.Rows.ticks.Goals as goal

pub returns : goal.returns
returns c =
    let less = subst (λ (z : table.Table). c.args.n < length z.items) (sym c.self.view_is) c.requires in
    c.ticks.ensures
    ∙ ap (λ (x : ThreadState × Source). x.1.ticks)
    (looked_up_row_is_get_or (beside_in c.self.inside.basis.memory) c.self.inside.rows.items c.index-row.result.now c.args.n idle_beside less c.index-row.ensures)
    ∙ ap (λ (z : table.Table). (get_or z.items c.args.n idle_beside).1.ticks) c.self.view_is
