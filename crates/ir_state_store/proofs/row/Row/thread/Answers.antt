use Rattle.std.proofs.Common.{◌≡◌, subst}
use Rattle.std.specs.Prelude.{IfOk}
use Rattle.ir_state_store.specs.Rows as rows
use Rattle.ir_state_store.proofs.row.Row.thread.Goals as goal

pub returns : goal.returns
returns c =
    subst (λ (r : rows.StoreRow). IfOk c.thread.result (λ thread. thread ≡ rows.thread_in c.args.start.now r)) c.self.view_is c.thread.ensures
