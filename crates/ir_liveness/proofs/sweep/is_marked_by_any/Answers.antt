use Rattle.std.proofs.Common.{arith}
use Rattle.ir_liveness.proofs.sweep.is_marked_by_any.Goals as goal

pub returns-then-is_marked_by-clause-found : goal.returns-then-is_marked_by-clause-found
returns-then-is_marked_by-clause-found c = λ _.
    let found = c.is_marked_by.ensures.found c.if-is_marked_by.true in
    (record { pc = found.0; number = c.loop-number.number }, found.1, omega arith, found.2)
