use Rattle.std.proofs.Common.{◌≡◌, []}
use Rattle.std.specs.Prelude.{replicate}
use Rattle.ir_search.specs.Levels.{rows}
use Rattle.ir_search.proofs.search.no_rows.Given as goal

abbrev pub invariant-loop : goal.invariant-loop
invariant-loop l = rows l.opened.items ≡ replicate l.counter []
