use Rattle.ir_stale_run.proofs.Joined.{overwriting_is_inside}
use Rattle.ir_stale_run.proofs.lines.rest_line.Goals as goal

pub put_over-requires-clause-placed : goal.put_over-requires-clause-placed
put_over-requires-clause-placed c = overwriting_is_inside c.args.fitted.now c.known.ensures.run c.args.row.now c.requires.row
