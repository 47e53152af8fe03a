use Rattle.std.proofs.Common.{refl}
use Rattle.std.proofs.lemmas.Iterator.Consumers.{nth_from_yields_List}
use Rattle.std.proofs.lemmas.Iterator.Splits.{YieldsList-from_lines}
use Rattle.ir_make.proofs.ShownLines.{found_line_is_line_at}
use Rattle.ir_make.proofs.reporting.line_at.Goals as goal

pub returns : goal.returns
returns c = found_line_is_line_at (λ s. s.now) c.args.text.now c.args.number c.saturating_sub.result c.nth.result _ c.unwrap_or.result
    (nth_from_yields_List _ _ c.saturating_sub.result c.nth.ensures.ran (YieldsList-from_lines c.args.text.now c.lines.ensures.rest))
    c.saturating_sub.ensures c.unwrap_or.ensures refl
