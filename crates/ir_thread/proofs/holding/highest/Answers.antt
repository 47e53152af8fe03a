use Rattle.std.proofs.Common.{Some, None, ◌∙◌, sym}
use Rattle.ir_thread.proofs.Highest.{highest-take_suc}
use Rattle.ir_thread.proofs.holding.highest.Goals as goal
use Rattle.ir_thread.proofs.holding.highest.Goals.{in-Some, in_default}

pub loop-number-preserved : goal.loop-number-preserved
loop-number-preserved c = elim c.match-entry.branch [
  | in-Some w ↦ w.found-is ∙ sym (highest-take_suc c.args.held.now c.loop-number.number (Some w.in-Some.access) c.loop-number-test.true
      w.in-Some.is)
  | in_default w ↦ w.found-is ∙ c.loop-number.invariant
      ∙ sym (highest-take_suc c.args.held.now c.loop-number.number None c.loop-number-test.true w.in_default.is)
]
