use Rattle.std.proofs.Common.{◌≡◌, subst, List, ℕ}
use Rattle.std.specs.Prelude.{IfOk}
use Rattle.ir_thread_bytes.specs.Thawed.{thawed}
use Rattle.ir_state_store.specs.Rows as rows
use Rattle.ir_state_store.proofs.packed.Packed.thread.Goals as goal

pub returns : goal.returns
returns c =
    subst (λ (p : rows.Packed). IfOk c.thaw.result (λ thread. thread ≡ thawed c.args.start.now c.args.frame.now p.at p.bytes)) c.self.view_is
    (subst (λ (l : List ℕ). IfOk c.thaw.result (λ thread. thread ≡ thawed c.args.start.now c.args.frame.now c.self.inside.at l)) c.as_slice.ensures.value
    c.thaw.ensures)
