use Rattle.std.proofs.Common.{sym, ap, subst, refl}
use Rattle.ir_fit.specs.Fit.{FittedTrace}
use Rattle.ir_timeline.specs.Hand.{IsCutOf}
use Rattle.ir_debug.specs.Debugging.{Debugging}
use Rattle.ir_debug.proofs.Desks.{moved_is_debugging}
use Rattle.ir_debug.proofs.debugger.Debugger.search_up_to.Goals as goal

pub search_up_to-requires-clause-cut : goal.search_up_to-requires-clause-cut
search_up_to-requires-clause-cut g c κs within =
    subst (λ (f : FittedTrace). IsCutOf f c.args.from.now) (sym (ap (λ (d : Debugging). d.desk.fitted) c.self.view_is)) c.requires.cut

pub invariant_of-self : goal.invariant_of-self
invariant_of-self g c = moved_is_debugging _ _ _ c.search_up_to.ensures.fitted refl refl refl refl c.self.invariant.desk
