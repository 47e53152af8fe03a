use Rattle.ir_stale_run.proofs.Leaving.{row_entries_are_placed}
use Rattle.ir_stale_run.proofs.lines.put_write.Goals as goal

pub step_of-requires : goal.step_of-requires
step_of-requires c = (row_entries_are_placed c.args.fitted.now c.known.ensures.run c.args.row.now c.requires.row).event
