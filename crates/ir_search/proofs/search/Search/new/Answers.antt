use Rattle.std.proofs.Common.{[], ◌∷◌, sym, subst}
use Rattle.ir_search.specs.Levels.{rows}
use Rattle.ir_search.specs.Origins.{first_origin}
use Rattle.ir_search.specs.Searching.{IsBetween}
use Rattle.ir_search.proofs.Between.{between_levels_at_start}
use Rattle.ir_search.proofs.search.Search.new.Goals as goal

pub returns-clause-between : goal.returns-clause-between
returns-clause-between c = λ noted.
    subst (λ z. IsBetween noted 1 z c.new.result.items (rows c.in_ok-opened.opened.items) (record { number = 0; first = 0; until = 1 })) (sym c.in_ok-nodes.ensures)
    (subst (λ z. IsBetween noted 1 (first_origin ∷ []) c.new.result.items z (record { number = 0; first = 0; until = 1 })) (sym c.in_ok-opened.ensures)
    (between_levels_at_start noted c.args.threads c.new.result.items))
