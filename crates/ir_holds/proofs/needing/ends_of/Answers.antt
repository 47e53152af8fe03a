use Rattle.std.proofs.Common.{arith}
use Rattle.ir_holds.proofs.Needs.{ends_hold_for_all}
use Rattle.ir_holds.proofs.needing.ends_of.Goals as goal

pub returns : goal.returns
returns c = ends_hold_for_all c.args.trace.now c.args.boxes.now c.loop-number.number 0 c.loop-number.ends
    (let past = c.loop-number-test.false in let end = c.loop-number.auto.number-end in omega (arith, past, end)) c.loop-number.invariant.holds
