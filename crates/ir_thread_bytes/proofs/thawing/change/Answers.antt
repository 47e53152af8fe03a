use Rattle.ir_thread_bytes.proofs.Back.{changed_of_rest, last_change_is_whole}
use Rattle.ir_thread_bytes.proofs.thawing.change.Goals as goal

pub loop-k-preserved : goal.loop-k-preserved
loop-k-preserved c =
    changed_of_rest c.loop-k.memory.items c.args.changes.now c.loop-k.k c.from_le_bytes.result _ c.loop-k-test.true c.from_le_bytes.ensures
    c.loop-k.invariant.size c.loop-k.invariant.same

pub returns-clause-value : goal.returns-clause-value
returns-clause-value c = last_change_is_whole c.loop-k.memory.items c.args.changes.now c.loop-k.k _ c.loop-k-test.false c.loop-k.invariant.same
