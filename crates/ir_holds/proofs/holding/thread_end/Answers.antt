use Rattle.std.proofs.Common.{◌+◌, subst}
use Rattle.ir_picture.specs.Places.{IsLeastAbove}
use Rattle.ir_holds.specs.Held.{IsLeastFrom, MarkedBefore, ComesFrom}
use Rattle.ir_holds.proofs.holding.thread_end.Goals as goal

pub returns : goal.returns
returns c = λ boxes spans holds.
    let t = c.args.thread in
    record {
      x = subst (λ k. IsLeastAbove 0 (MarkedBefore boxes spans t k) c.past.result) c.steps_of-steps.ensures (c.past.ensures.least boxes spans holds);
      u = subst (λ k. IsLeastFrom (k + 1) (ComesFrom boxes spans t k) c.come.result) c.steps_of-steps.ensures (c.come.ensures boxes spans holds);
    }
