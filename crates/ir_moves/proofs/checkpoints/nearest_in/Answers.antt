use Rattle.std.proofs.Common.{length}
use Rattle.ir_moves.proofs.Keepers.{kept_guest_thread_count}
use Rattle.ir_moves.proofs.checkpoints.nearest_in.Goals as goal

pub nearest-requires : goal.nearest-requires
nearest-requires c =
    kept_guest_thread_count c.args.fitted.now c.args.keeper.now.kept (length c.args.target.now) c.requires.kept c.requires.target
