use Rattle.std.proofs.Common.{sym, subst}
use Rattle.ir_fit.specs.Fit.{FittedTrace}
use Rattle.ir_timeline.specs.Hand.{IsCutOf}
use Rattle.ir_debug.proofs.debugger.Debugger.cut_with.Goals as goal

pub stop_at-requires-clause-cut : goal.stop_at-requires-clause-cut
stop_at-requires-clause-cut c =
    let held = c.self.invariant.desk in
    subst (λ (f : FittedTrace). IsCutOf f c.self.inside.at) (sym c.fitted-fitted.ensures.value) (held.size, held.at)
