use Rattle.std.proofs.Common.{◌≡◌, true, sym, ap, subst, ◌∙◌}
use Rattle.std.specs.Prelude.{nat_lt}
use Rattle.ir_fit.specs.Fit.{FittedTrace}
use Rattle.ir_cut.specs.Positions.{IsConsistentCut, threads_of}
use Rattle.ir_timeline.specs.Hand.{IsCutOf}
use Rattle.ir_debug.specs.Machine.{if_some, thread_named}
use Rattle.ir_command.specs.declared.command.Command.TheVariants as command
use Rattle.ir_debug.specs.Debugging.{Debugging}
use Rattle.ir_debug.proofs.CarriedOut.{permitted_thread_test}
use Rattle.ir_debug.proofs.debugger.Debugger.carry_out.Goals as goal

pub destination-requires-clause-cut : goal.destination-requires-clause-cut
destination-requires-clause-cut g c =
    let held = c.self.invariant.desk in
    subst (λ (f : FittedTrace). IsCutOf f c.self.inside.at) (sym c.fitted.ensures.value) (held.size, held.at)

pub destination-requires-clause-thread : goal.destination-requires-clause-thread
destination-requires-clause-thread g c =
    subst (λ (f : FittedTrace). if_some (thread_named (command.Move c.args.to)) (λ t. nat_lt t (threads_of f)) ≡ true)
    (sym (c.fitted.ensures.value ∙ ap (λ (d : Debugging). d.desk.fitted) c.self.view_is))
    (permitted_thread_test c.args.self.now.desk c.args.to c.requires)

pub go_to-requires-clause-consistent : goal.go_to-requires-clause-consistent
go_to-requires-clause-consistent g c κs within =
    subst (λ (f : FittedTrace). IsConsistentCut f c.in_ok-cut.cut) c.fitted.ensures.value c.in_ok-cut.ensures.consistent
