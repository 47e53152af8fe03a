use Rattle.std.proofs.Common.{◌∙◌, ℕ, List, sym, subst}
use Rattle.std.proofs.lemmas.Result.{IfOk-weaker}
use Rattle.std.specs.Prelude.{IfOk}
use Rattle.ir_timeline.specs.Hand.{IsCutOf}
use Rattle.ir_gdb.specs.Serving.{Serving}
use Rattle.ir_gdb.proofs.remote.Remote.here.Goals as goal

pub returns-clause-cut : goal.returns-clause-cut
returns-clause-cut c =
    let d = c.self.inside.debugger.desk in
    let desk = c.fitted.ensures.desk in
    subst (λ (s : Serving). IfOk c.copy.result (λ cut. IsCutOf s.stub.desk.fitted cut)) c.self.view_is
    (IfOk-weaker c.copy.result _ (λ cut. IsCutOf d.fitted cut)
    (λ cut same. subst (λ (x : List ℕ). IsCutOf d.fitted x) (sym (same ∙ c.at.ensures)) (desk.size, desk.at)) c.copy.ensures)
