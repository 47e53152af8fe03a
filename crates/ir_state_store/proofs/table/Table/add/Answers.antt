use Rattle.std.proofs.Common.{sym, subst}
use Rattle.ir_world.specs.Sources.{Source}
use Rattle.ir_thread.specs.State.{ThreadState}
use Rattle.ir_state_store.specs.Hashes.{IsFoundBy}
use Rattle.ir_state_store.proofs.table.Table.add.Goals as goal

pub find-requires-clause-found : goal.find-requires-clause-found
find-requires-clause-found c = λ n at.
    let x : ThreadState × Source = (c.args.thread.now, c.args.source.now) in
    let basis = c.self.inside.rows.basis in
    subst (λ h. IsFoundBy c.self.inside.index h n)
    (sym (c.whole_hash-whole.ensures basis (c.seen_hash-seen.ensures basis (c.seen.ensures.frozen basis c.args.thread.now c.in_ok-packed.ensures))))
    (c.self.invariant.0.found n x at)
