use Rattle.std.proofs.Common.{get_or, ap, ◌∙◌}
use Rattle.ir_thread_bytes.specs.Frozen.{is_over}
use Rattle.ir_state_store.specs.Table.{idle_beside}
use Rattle.ir_state_store.specs.Table as table
use Rattle.ir_state_store.proofs.table.Table.over.Goals as goal

pub returns : goal.returns
returns c = c.over.ensures ∙ ap (λ (z : table.Table). is_over (get_or z.items c.args.n idle_beside).0) c.self.view_is
