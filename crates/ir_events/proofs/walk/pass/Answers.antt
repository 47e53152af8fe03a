use Rattle.std.proofs.Common.{slice_set, refl, arith}
use Rattle.ir_events.proofs.Passes.{pass_after_next_thread, all_listed_goes_on}
use Rattle.ir_events.proofs.walk.pass.Goals as goal

pub loop-t-preserved : goal.loop-t-preserved
loop-t-preserved c =
    let f = c.args.fitted.now in
    let ends = c.args.ends.now in
    let t = c.loop-t.t in
    let i = c.loop-t.invariant in
    let new = c.in_ok-state.state in
    let done = c.in_ok-state.ensures in
    record {
      passed = pass_after_next_thread f ends t c.args.state c.loop-t.state new i.passed done.way done.further done.rests;
      listed = all_listed_goes_on f t c.loop-t.state new c.loop-t.lists (slice_set c.loop-t.lists t c.visit_thread.new.list)
          c.visit_thread.new.list i.listed done.further done.listed (omega arith) refl;
    }
