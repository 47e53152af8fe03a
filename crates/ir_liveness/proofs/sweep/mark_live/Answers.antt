use Rattle.std.proofs.Common.{length, ap}
use Rattle.ir_liveness.proofs.Swept.{unchanged_sweep_is_table}
use Rattle.ir_liveness.proofs.sweep.mark_live.Goals as goal

pub returns-then-not-sweep : goal.returns-then-not-sweep
returns-then-not-sweep c =
    unchanged_sweep_is_table c.args.code.now c.sweeps.marks c.sweep.new.marks c.sweep.result (length c.words-words.result.now)
    c.if-not-sweep.true (ap length c.words-words.ensures) c.sweeps.invariant.live c.sweep.ensures.swept
