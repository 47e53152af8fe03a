use Rattle.std.proofs.Common.{length}
use Rattle.ir_moves.proofs.Keepers.{kept_guest_thread_count}
use Rattle.ir_moves.proofs.checkpoints.keep_in.Goals as goal

pub keep-requires-clause-threads : goal.keep-requires-clause-threads
keep-requires-clause-threads c =
    kept_guest_thread_count c.args.fitted.now c.args.keeper.now.kept (length c.args.state.now.threads) c.requires.kept c.requires.stands.at.threads
