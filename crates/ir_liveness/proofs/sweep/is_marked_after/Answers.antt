use Rattle.std.proofs.Common.{ℕ, Option, refl, sym, subst}
use Rattle.ir_liveness.specs.Ways.{MayAsk}
use Rattle.ir_liveness.proofs.sweep.is_marked_after.Goals as goal

pub returns-in-Some-clause-found : goal.returns-in-Some-clause-found
returns-in-Some-clause-found c = λ is.
    let found = c.is_marked_by.ensures.found is in
    (record { pc = found.0; number = c.in-Some.known }, found.1, subst (λ (z : Option ℕ). MayAsk z c.in-Some.known) (sym c.in-Some.is) refl, found.2)
