use Rattle.std.proofs.Common.{List, sym, subst}
use Rattle.std.specs.Prelude.{IfSome}
use Rattle.ir_timeline.specs.Hand.{IsCutOf}
use Rattle.ir_debug.specs.Debugging.{Debugging, AllKept}
use Rattle.ir_debug.specs.Machine.{Kept}
use Rattle.ir_debug.proofs.KeptCuts.{found_kept_cut_is_cut}
use Rattle.ir_debug.proofs.debugger.Debugger.kept_cut.Goals as goal

pub returns-clause-cuts : goal.returns-clause-cuts
returns-clause-cuts c =
    let f = c.self.inside.timeline.fitted in
    subst (λ (z : Debugging). IfSome c.kept_cut.result (λ b. IsCutOf z.desk.fitted b.now)) c.self.view_is
    (found_kept_cut_is_cut c.kept_cut.result (λ b. b.now) f c.as_slice.result.now c.args.number
    (subst (λ (ks : List Kept). AllKept f ks) (sym c.as_slice.ensures.value) c.self.invariant.desk.kept) c.kept_cut.ensures)
