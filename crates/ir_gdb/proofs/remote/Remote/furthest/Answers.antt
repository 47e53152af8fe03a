use Rattle.std.proofs.Common.{◌≡◌, ◌∙◌, length, ap, subst}
use Rattle.std.specs.Prelude.{IfOk}
use Rattle.ir_fit.specs.Fit.{FittedTrace}
use Rattle.ir_cut.specs.Positions.{IsConsistentCut, threads_of}
use Rattle.ir_timeline.specs.Hand.{IsCutOf}
use Rattle.ir_gdb.specs.Serving.{Serving}
use Rattle.ir_gdb.proofs.There.{if_ok_of_both_facts}
use Rattle.ir_gdb.proofs.remote.Remote.furthest.Goals as goal

pub returns-in-Forwards-clause-cut : goal.returns-in-Forwards-clause-cut
returns-in-Forwards-clause-cut c =
    let f = c.fitted.result.now in
    let same = c.fitted.ensures.value ∙ ap (λ (x : Serving). x.stub.desk.fitted) c.self.view_is in
    subst (λ (x : FittedTrace). IfOk c.last_cut.result (λ cut. IsCutOf x cut)) same
    (if_ok_of_both_facts c.last_cut.result (λ cut. length cut ≡ threads_of f) (λ cut. IsConsistentCut f cut) c.last_cut.ensures.size c.last_cut.ensures.consistent)
