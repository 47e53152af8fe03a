use Rattle.std.proofs.lemmas.Result.{IfOk-weaker}
use Rattle.ir_cut.specs.Positions.{EachRun}
use Rattle.ir_gdb.specs.Stops.{position_of, ContinuesBackTo}
use Rattle.ir_gdb.proofs.Stopping.{positive_if_not_zero, continues_back_to_stop}
use Rattle.ir_gdb.proofs.remote.Remote.below.Goals as goal

pub returns-clause-stops : goal.returns-clause-stops
returns-clause-stops g c =
    let s = c.args.self.now.stub in
    let t = c.args.thread in
    let w = c.args.watched in
    let p = c.position-position.result in
    let above = positive_if_not_zero p (position_of s t) c.if-position-eq0.false c.position-position.ensures.value in
    IfOk-weaker c.found_below.result _ (λ to. EachRun s.desk.fitted (λ run. ContinuesBackTo run s t w to))
    (λ to stops. continues_back_to_stop s c.watch_here.new.self.stub t w c.in_ok-reason.field-0 to c.watch_here.ensures.stub above c.in_ok-reason.ensures.watch
    c.in_default.is stops) c.found_below.ensures.stops
