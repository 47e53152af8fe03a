use Rattle.std.proofs.Common.{List, subst, ◌∙◌}
use Rattle.std.specs.Prelude.{MatchOption}
use Rattle.ir_symbols.specs.Symbols.{Symbol}
use Rattle.ir_symbols.specs.Tables.{IsNearestSymbol}
use Rattle.ir_symbols.proofs.Nearest.{NoneReaches, not_found_not_nearest, look_up_is_nearest}
use Rattle.ir_symbols.proofs.table.SymbolTable.nearest.Goals as goal

-- what was found of the table's symbols
cases : (c : goal.After-nearest_of) → MatchOption c.nearest_of.result (NoneReaches c.args.address c.args.self.now)
    (λ r. IsNearestSymbol c.args.self.now c.args.address r.now)
cases c = subst (λ (l : List Symbol). MatchOption c.nearest_of.result (NoneReaches c.args.address l) (λ r. IsNearestSymbol l c.args.address r.now))
    (c.as_slice.ensures.value ∙ c.self.view_is) c.nearest_of.ensures

pub returns-clause-none : goal.returns-clause-none
returns-clause-none c = not_found_not_nearest c.nearest_of.result (λ r. r.now) c.args.self.now c.args.address (cases c)

pub returns-clause-value : goal.returns-clause-value
returns-clause-value c = look_up_is_nearest c.nearest_of.result (λ r. r.now) c.args.self.now c.args.address (cases c)
