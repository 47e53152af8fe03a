use Rattle.std.proofs.Common.{sym, ◌∙◌}
use Rattle.ir_symbols.proofs.Lines.{map_lines_first, map_lines_single}
use Rattle.ir_symbols.proofs.reading.first_line.Goals as goal

pub returns-in-Some-clause-lines : goal.returns-in-Some-clause-lines
returns-in-Some-clause-lines c =
    map_lines_first c.args.text.now c.without_return.result.now c.in-Some.end (sym c.line_feed.ensures ∙ c.in-Some.is) c.without_return.ensures

pub returns-in-None-clause-lines : goal.returns-in-None-clause-lines
returns-in-None-clause-lines c =
    map_lines_single c.args.text.now c.without_return-in-None.result.now (sym c.line_feed.ensures ∙ c.in-None.is) c.without_return-in-None.ensures
