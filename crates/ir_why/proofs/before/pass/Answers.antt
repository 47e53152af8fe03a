use Rattle.std.proofs.Common.{arith}
use Rattle.ir_why.proofs.Gathered.{unscanned_falls}
use Rattle.ir_why.proofs.before.pass.Goals as goal

pub returns-clause-more : goal.returns-clause-more
returns-clause-more c = λ moved.
    let own = c.loop-thread.invariant.more moved in
    let h = c.loop-thread.invariant.gathered in
    unscanned_falls c.args.trace.now c.args.past.now.scanned.items c.loop-thread.past.scanned.items own.0 c.loop-thread.invariant.risen own.1 own.2
    (omega (arith, h.behind own.0, h.within own.0))
