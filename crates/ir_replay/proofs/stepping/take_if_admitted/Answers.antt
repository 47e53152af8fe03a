use Rattle.std.proofs.Common.{◌<◌, arith}
use Rattle.ir_cut.specs.Positions.{cut_of}
use Rattle.ir_weave.specs.Standing.{positions}
use Rattle.ir_weave.proofs.CallerLemmas.{stepped_by_result}
use Rattle.ir_replay.proofs.Reached.{below_has_steps_ahead, none_logs_next_rests}
use Rattle.ir_replay.proofs.stepping.take_if_admitted.Goals as goal

pub next_result-requires-clause-steps : goal.next_result-requires-clause-steps
next_result-requires-clause-steps g c = below_has_steps_ahead c.args.fitted.now c.args.target.now c.args.flat.now c.args.t c.left.result
    c.requires.target c.requires.thread c.left.ensures (omega (arith, c.if-left-eq0.false))

pub returns-in-None-clause-rests : goal.returns-in-None-clause-rests
returns-in-None-clause-rests g c = λ same. none_logs_next_rests c.args.fitted.now c.args.target.now c.args.flat.now c.args.t c.requires.target
    c.requires.under c.requires.thread c.in-None.ensures

pub returns-in-Some-clause-under : goal.returns-in-Some-clause-under
returns-in-Some-clause-under g c =
    (stepped_by_result c.take.result c.args.fitted.now c.args.target.now c.args.flat.now c.take.new.self c.args.t c.in-Some.result
    c.requires.target c.requires.under c.requires.thread
    (let some = c.if-left-eq0.false in let is = c.left.ensures in
    let e : positions c.args.flat.now c.args.t < cut_of c.args.target.now c.args.t = omega (arith, some, is) in e)
    c.in-Some.ensures c.take.ensures.taken c.take.ensures.code c.take.ensures.threads c.take.ensures.objects c.take.ensures.refused).under

pub returns-in-Some-clause-gone : goal.returns-in-Some-clause-gone
returns-in-Some-clause-gone g c moved =
    (stepped_by_result c.take.result c.args.fitted.now c.args.target.now c.args.flat.now c.take.new.self c.args.t c.in-Some.result
    c.requires.target c.requires.under c.requires.thread
    (let some = c.if-left-eq0.false in let is = c.left.ensures in
    let e : positions c.args.flat.now c.args.t < cut_of c.args.target.now c.args.t = omega (arith, some, is) in e)
    c.in-Some.ensures c.take.ensures.taken c.take.ensures.code c.take.ensures.threads c.take.ensures.objects c.take.ensures.refused).gone
