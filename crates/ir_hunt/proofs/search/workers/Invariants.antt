use Rattle.std.proofs.Common.{◌≡◌}
use Rattle.std.specs.Prelude.{All}
use Rattle.ir_hunt.proofs.search.workers.Given as goal

-- each worker so far is of the hunt
abbrev pub invariant-workers : goal.invariant-workers
invariant-workers g l = All (λ w. w.tries ≡ l.own) l.workers.items
