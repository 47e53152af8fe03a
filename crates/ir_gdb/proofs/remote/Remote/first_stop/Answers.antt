use Rattle.std.proofs.Common.{◌<◌, arith}
use Rattle.ir_cut.specs.Positions.{threads_of}
use Rattle.ir_gdb.proofs.Moving.{first_stop_is_met, none_stops_step}
use Rattle.ir_gdb.proofs.remote.Remote.first_stop.Goals as goal

pub returns-in-Some-2-clause-stops : goal.returns-in-Some-2-clause-stops
returns-in-Some-2-clause-stops c =
    let test = c.threads-test.true in
    let count = c.count-count.ensures.value in
    let below : c.threads.other < threads_of c.args.self.now.stub.desk.fitted = omega (arith, test, count) in
    first_stop_is_met c.args.self.now.stub c.args.direction c.args.each.now c.args.thread c.threads.other c.in_ok-stop.field-0 c.in_ok-stop-2.field-0
    c.in-Some-2.stop c.in_default.is c.in_ok-stop.ensures.stops c.if-other-thread.false below c.threads.invariant c.in-Some-2.is
    c.in_ok-stop-2.ensures.stops

pub threads-preserved : goal.threads-preserved
threads-preserved c =
    none_stops_step c.args.self.now.stub c.args.direction c.args.each.now c.args.thread c.threads.other c.in_ok-stop-2.field-0 c.in_default-2.is
    c.in_ok-stop-2.ensures.stops c.threads.invariant
