use Rattle.ir_gdb.proofs.Lasts.{first_stop_end_within_last}
use Rattle.ir_gdb.proofs.Stopping.{continues_to_first_stop}
use Rattle.ir_gdb.proofs.remote.Remote.above.Goals as goal

pub returns-clause-within : goal.returns-clause-within
returns-clause-within g c =
    first_stop_end_within_last c.args.self.now.stub c.args.thread c.last-last.result c.args.watched c.halts-halts.result.watches.now c.halts-halts.result.breaks.now
    c.in_ok-hit.hit c.end_above.result c.has_run.ensures c.requires c.in_ok-hit.ensures.stop c.last-last.ensures c.end_above.ensures

pub returns-clause-stops : goal.returns-clause-stops
returns-clause-stops g c =
    continues_to_first_stop c.args.self.now.stub c.first_stop_above.new.self.stub c.args.thread c.last-last.result c.args.watched c.in_ok-hit.hit
    c.halts-halts.result.watches.now c.halts-halts.result.breaks.now c.end_above.result c.first_stop_above.ensures.stub c.in_ok-hit.ensures.stop
    c.halts-halts.ensures.watches c.halts-halts.ensures.breaks c.last-last.ensures c.end_above.ensures
