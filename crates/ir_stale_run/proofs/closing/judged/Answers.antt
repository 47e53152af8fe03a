use Rattle.std.proofs.Common.{◌∙◌}
use Rattle.ir_stale_run.proofs.Opened.{closed_row_is_found}
use Rattle.ir_stale_run.proofs.closing.judged.Goals as goal

pub returns : goal.returns
returns c = closed_row_is_found c.args.guide.copies c.args.guide.route.fitted.now c.args.guide.rows.now c.args.t c.args.k c.code.result.now c.args.opened c.found_of.result
    c.requires.opened c.requires.here (c.code.ensures ∙ c.requires.guide.route.words) c.found_of.ensures
