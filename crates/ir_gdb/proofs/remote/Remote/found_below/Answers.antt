use Rattle.ir_gdb.proofs.Bounds.{last_stop_end_within_last}
use Rattle.ir_gdb.proofs.Stopping.{stops_below_at_last}
use Rattle.ir_gdb.proofs.remote.Remote.found_below.Goals as goal

pub returns-clause-within : goal.returns-clause-within
returns-clause-within g c =
    last_stop_end_within_last c.args.self.now.stub c.args.thread c.position.result c.args.watched c.halts-halts.result.watches.now c.halts-halts.result.breaks.now
    c.in_ok-hit.hit c.end_below.result c.has_run.ensures c.position.ensures.value c.position.ensures.within c.in_ok-hit.ensures.stop c.end_below.ensures

pub returns-clause-stops : goal.returns-clause-stops
returns-clause-stops g c =
    stops_below_at_last c.args.self.now.stub c.last_stop_below.new.self.stub c.args.thread c.args.watched c.in_ok-hit.hit c.halts-halts.result.watches.now
    c.halts-halts.result.breaks.now c.end_below.result c.last_stop_below.ensures.stub c.in_ok-hit.ensures.stop c.halts-halts.ensures.watches
    c.halts-halts.ensures.breaks c.end_below.ensures
