use Rattle.std.proofs.Common.{◌↔◌, ℕ, List, IsTrue, subst}
use Rattle.ir_cut.specs.Positions.{IsConsistentCut}
use Rattle.ir_cut.proofs.consistency.consistent.Goals as goal

pub returns : goal.returns
returns c = subst (λ (xs : List ℕ). IsTrue c.are_within.result ↔ IsConsistentCut c.args.fitted.now xs) c.positions.ensures
    c.are_within.ensures
