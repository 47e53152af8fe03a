use Rattle.std.proofs.Common.{arith}
use Rattle.ir_opened.proofs.CallerLemmas.{entry_position_fits_64}
use Rattle.ir_stale_run.proofs.spans.behind.Goals as goal

pub overflow_add-result : goal.overflow_add-result
overflow_add-result c =
    let fits = entry_position_fits_64 c.args.fitted.now c.known.ensures c.args.thread c.args.event c.requires in
    let same = c.step_of.ensures in omega (arith, fits, same)
