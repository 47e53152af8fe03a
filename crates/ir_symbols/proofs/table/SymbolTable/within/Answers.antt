use Rattle.std.proofs.Common.{ap, ◌∙◌}
use Rattle.std.proofs.lemmas.List.{take_rest}
use Rattle.ir_symbols.specs.Tables.{symbols_within}
use Rattle.ir_symbols.proofs.Ranges.{drop_take_is_within}
use Rattle.ir_symbols.proofs.table.SymbolTable.within.Goals as goal

pub returns : goal.returns
returns c = take_rest _ c.count_below-2.result
    ∙ drop_take_is_within c.as_slice-symbols.result.now c.args.start c.args.end c.count_below.result c.count_below-2.result
    c.count_below.ensures.bound c.count_below.ensures.point c.count_below-2.ensures.bound c.count_below-2.ensures.point
    ∙ ap (symbols_within c.args.start c.args.end) (c.as_slice-symbols.ensures.value ∙ c.self.view_is)
