use Rattle.std.proofs.Common.{◌≡◌, ◌∙◌, length, sym, ap, subst}
use Rattle.std.proofs.lemmas.Result.{IfOk-weaker}
use Rattle.std.specs.Prelude.{IfOk}
use Rattle.ir_fit.specs.Fit.{FittedTrace}
use Rattle.ir_cut.specs.Positions.{EachRun, IsConsistentCut, cut_of, threads_of}
use Rattle.ir_command.specs.declared.command.Direction.TheVariants.{Backwards}
use Rattle.ir_debug.specs.Machine.{StopsAt}
use Rattle.ir_timeline.specs.Hand.{IsCutOf}
use Rattle.ir_gdb.specs.Serving.{Serving}
use Rattle.ir_gdb.proofs.There.{if_ok_of_both_facts}
use Rattle.ir_gdb.proofs.remote.Remote.cut_down.Goals as goal

pub greatest-requires-clause-consistent : goal.greatest-requires-clause-consistent
greatest-requires-clause-consistent c =
    let same = c.fitted-fitted.ensures.value ∙ ap (λ (x : Serving). x.stub.desk.fitted) c.self.view_is in
    subst (λ (x : FittedTrace). IsConsistentCut x c.args.from.now) (sym same) c.requires.from.1

pub returns-clause-cut : goal.returns-clause-cut
returns-clause-cut c =
    let f = c.fitted-fitted.result.now in
    let same = c.fitted-fitted.ensures.value ∙ ap (λ (x : Serving). x.stub.desk.fitted) c.self.view_is in
    let size = IfOk-weaker c.greatest.result _ (λ cut. length cut ≡ threads_of f) (λ cut greatest. greatest.0) c.greatest.ensures.greatest in
    subst (λ (x : FittedTrace). IfOk c.greatest.result (λ cut. IsCutOf x cut)) same
    (if_ok_of_both_facts c.greatest.result (λ cut. length cut ≡ threads_of f) (λ cut. IsConsistentCut f cut) size c.greatest.ensures.consistent)

pub returns-clause-there : goal.returns-clause-there
returns-clause-there c =
    IfOk-weaker c.greatest.result _ (λ cut. cut_of cut c.args.thread ≡ c.args.position) (λ cut exact. exact c.requires.within) c.greatest.ensures.exact

pub returns-clause-greatest : goal.returns-clause-greatest
returns-clause-greatest c =
    let f = c.fitted-fitted.result.now in
    let same = c.fitted-fitted.ensures.value ∙ ap (λ (x : Serving). x.stub.desk.fitted) c.self.view_is in
    let comes = IfOk-weaker c.greatest.result _ (λ cut. EachRun f (λ run. StopsAt run f c.args.from.now c.args.thread Backwards c.args.position cut))
    (λ cut greatest run whole. (greatest.0, greatest.1 run whole)) c.greatest.ensures.greatest in
    subst (λ (x : FittedTrace). IfOk c.greatest.result (λ cut. EachRun x (λ run. StopsAt run x c.args.from.now c.args.thread Backwards c.args.position cut))) same comes
