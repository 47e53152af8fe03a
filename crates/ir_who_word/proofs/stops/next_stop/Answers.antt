use Rattle.std.proofs.Common.{arith}
use Rattle.ir_who_word.proofs.Walked.{before_found_hold_stop}
use Rattle.ir_who_word.proofs.stops.next_stop.Goals as goal

pub returns-in-Some-clause-stop : goal.returns-in-Some-clause-stop
returns-in-Some-clause-stop c = before_found_hold_stop c.args.track.now c.deref.result.now c.args.k c.min-in-Some.result c.in-Some.hold.now c.deref.ensures.value
    c.requires.sorted c.in-Some.ensures.lookup.3.0 c.in-Some.ensures.lookup.1 (let a = c.min.ensures in let b = c.min-in-Some.ensures in omega (arith, a, b))
    (λ _. let a = c.min.ensures in let b = c.min-in-Some.ensures in omega (arith, a, b))

pub returns-in-Some-2-clause-stop : goal.returns-in-Some-2-clause-stop
returns-in-Some-2-clause-stop c = before_found_hold_stop c.args.track.now c.deref.result.now c.args.k c.min-in-Some-2.result c.in-Some.hold.now c.deref.ensures.value
    c.requires.sorted c.in-Some.ensures.lookup.3.0 c.in-Some.ensures.lookup.1 (let b = c.min-in-Some-2.ensures in omega (arith, b))
    (λ less. absurd (let a = c.if-k-track.false in omega (arith, a, less)))
