use Rattle.std.proofs.Common.{subst}
use Rattle.ir_weave.specs.Ahead.{IsAsking}
use Rattle.ir_weave.proofs.Steps.{asking_is_not_done}
use Rattle.ir_weave.proofs.weave.Weave.take.Goals as goal

pub unreachable-requires : goal.unreachable-requires
unreachable-requires c = asking_is_not_done c.args.self.now.table.shared.key c.args.fitted.now c.args.seat.now.me.0 c.args.thread.now c.requires.table
    c.requires.thread (subst (IsAsking c.args.fitted.now c.args.thread.now) c.in-Done.is c.requires.asking)
