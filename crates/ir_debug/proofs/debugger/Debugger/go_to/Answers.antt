use Rattle.std.proofs.Common.{sym, ap, subst, refl}
use Rattle.ir_fit.specs.Fit.{FittedTrace}
use Rattle.ir_timeline.specs.Hand.{IsCutOf}
use Rattle.ir_debug.specs.Debugging.{Debugging}
use Rattle.ir_debug.proofs.Desks.{desk_by_parts, moved_is_debugging}
use Rattle.ir_debug.proofs.debugger.Debugger.go_to.Goals as goal

pub go_to-requires-after_bounds : goal.go_to-requires-after_bounds
go_to-requires-after_bounds g c κs within =
    subst (λ (f : FittedTrace). IsCutOf f c.args.to) (sym (ap (λ (d : Debugging). d.desk.fitted) c.self.view_is))
    (c.requires.size, c.requires.consistent)

pub invariant_of-self : goal.invariant_of-self
invariant_of-self g c = moved_is_debugging _ _ _ c.go_to.ensures.fitted refl refl refl refl c.self.invariant.desk

pub invariant_of-self-2 : goal.invariant_of-self-2
invariant_of-self-2 g c =
    let held = c.self.invariant.desk in
    record {
      desk = desk_by_parts c.self.inside.timeline.fitted _ c.go_to.ensures.fitted held.run
          (subst (λ (f : FittedTrace). IsCutOf f c.args.to) (sym (ap (λ (d : Debugging). d.desk.fitted) c.self.view_is))
          (c.requires.size, c.requires.consistent)) held.points held.kept held.few;
      fresh = λ e. c.in_ok-go_to.ensures.there;
    }
