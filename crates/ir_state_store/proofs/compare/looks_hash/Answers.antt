use Rattle.std.proofs.Common.{◌∙◌}
use Rattle.ir_state_store.proofs.Numbered.{looks_hash_step}
use Rattle.ir_state_store.proofs.compare.looks_hash.Goals as goal

pub loop-n-preserved : goal.loop-n-preserved
loop-n-preserved c =
    looks_hash_step c.args.table.now.looks c.args.threads.now c.loop-n.n-index c.loop-n.hash c.after_number-hash.result c.look.result c.loop-n-test.true c.look.ensures
    c.after_number-hash.ensures ∙ c.loop-n.invariant
