use Rattle.std.proofs.Common.{◌≡◌, ◌∙◌, length, sym, ap, subst}
use Rattle.std.proofs.lemmas.Result.{IfOk-weaker}
use Rattle.std.specs.Prelude.{IfOk}
use Rattle.ir_fit.specs.Fit.{FittedTrace}
use Rattle.ir_cut.specs.Positions.{EachRun, IsConsistentCut, threads_of}
use Rattle.ir_command.specs.declared.command.Direction.TheVariants.{Forwards}
use Rattle.ir_debug.specs.Machine.{StopsAt}
use Rattle.ir_timeline.specs.Hand.{IsCutOf}
use Rattle.ir_gdb.specs.Serving.{Serving}
use Rattle.ir_gdb.proofs.There.{if_ok_of_both_facts}
use Rattle.ir_gdb.proofs.remote.Remote.cut_on.Goals as goal

pub least-requires-clause-consistent : goal.least-requires-clause-consistent
least-requires-clause-consistent c =
    let same = c.fitted-fitted.ensures.value ∙ ap (λ (x : Serving). x.stub.desk.fitted) c.self.view_is in
    subst (λ (x : FittedTrace). IsConsistentCut x c.args.from.now) (sym same) c.requires.from.1

pub returns-clause-cut : goal.returns-clause-cut
returns-clause-cut c =
    let f = c.fitted-fitted.result.now in
    let same = c.fitted-fitted.ensures.value ∙ ap (λ (x : Serving). x.stub.desk.fitted) c.self.view_is in
    let size = IfOk-weaker c.least.result _ (λ cut. length cut ≡ threads_of f) (λ cut least. least.0) c.least.ensures.least in
    subst (λ (x : FittedTrace). IfOk c.least.result (λ cut. IsCutOf x cut)) same
    (if_ok_of_both_facts c.least.result (λ cut. length cut ≡ threads_of f) (λ cut. IsConsistentCut f cut) size c.least.ensures.consistent)

pub returns-clause-least : goal.returns-clause-least
returns-clause-least c =
    let f = c.fitted-fitted.result.now in
    let same = c.fitted-fitted.ensures.value ∙ ap (λ (x : Serving). x.stub.desk.fitted) c.self.view_is in
    let comes = IfOk-weaker c.least.result _ (λ cut. EachRun f (λ run. StopsAt run f c.args.from.now c.args.thread Forwards c.args.position cut))
    (λ cut least run whole. (least.0, least.1 run whole)) c.least.ensures.least in
    subst (λ (x : FittedTrace). IfOk c.least.result (λ cut. EachRun x (λ run. StopsAt run x c.args.from.now c.args.thread Forwards c.args.position cut))) same comes
