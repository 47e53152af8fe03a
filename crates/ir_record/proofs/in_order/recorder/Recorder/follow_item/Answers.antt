use Rattle.std.proofs.Common.{map}
use Rattle.ir_record.specs.Recorders.{progress_of}
use Rattle.ir_record.proofs.Following.{on_ok_took_replicate, if_err_stopped_replicate}
use Rattle.ir_record.proofs.in_order.recorder.Recorder.follow_item.Goals as goal

pub returns-else-item-clause-took : goal.returns-else-item-clause-took
returns-else-item-clause-took g c = on_ok_took_replicate c.turns.result c.args.item.count c.args.item.thread c.args.item.refused
    (progress_of g.W.World.answers c.args.self.now) (progress_of g.W.World.answers c.turns.new.self) c.if-item.false c.turns.ensures.took

pub returns-else-item-clause-stopped : goal.returns-else-item-clause-stopped
returns-else-item-clause-stopped g c = if_err_stopped_replicate c.turns.result c.args.item.count c.args.item.thread c.args.item.refused
    (progress_of g.W.World.answers c.args.self.now) (map g.W.World.answers c.turns.new.self.worlds.items) c.if-item.false c.turns.ensures.stopped
