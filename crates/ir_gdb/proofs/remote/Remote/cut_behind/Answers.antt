use Rattle.std.proofs.Common.{◌≡◌, ◌≤◌, length, sym, subst}
use Rattle.std.proofs.lemmas.Result.{IfOk-weaker}
use Rattle.std.specs.Prelude.{IfOk}
use Rattle.ir_cut.specs.Positions.{IsConsistentCut, cut_of, threads_of}
use Rattle.ir_timeline.specs.Hand.{IsCutOf}
use Rattle.ir_gdb.specs.Serving.{Serving}
use Rattle.ir_gdb.specs.Stops.{position_of}
use Rattle.ir_gdb.proofs.There.{greatest_behind_exact, if_ok_of_both_facts}
use Rattle.ir_gdb.proofs.remote.Remote.cut_behind.Goals as goal

pub returns-clause-cut : goal.returns-clause-cut
returns-clause-cut c =
    let f = c.self.inside.debugger.desk.fitted in
    subst (λ (s : Serving). IfOk c.cut_with.result (λ cut. IsCutOf s.stub.desk.fitted cut)) c.self.view_is
    (if_ok_of_both_facts c.cut_with.result (λ cut. length cut ≡ threads_of f) (λ cut. IsConsistentCut f cut) c.cut_with.ensures.size c.cut_with.ensures.consistent)

pub returns-clause-there : goal.returns-clause-there
returns-clause-there c =
    let d = c.self.inside.debugger.desk in
    let low = subst (λ (s : Serving). c.args.position ≤ position_of s.stub c.args.thread) (sym c.self.view_is) c.requires.within.0 in
    IfOk-weaker c.cut_with.result _ (λ cut. cut_of cut c.args.thread ≡ c.args.position)
    (λ cut so. greatest_behind_exact c.greatest_exact.ensures d.fitted d.at cut c.args.thread c.args.position c.fitted.ensures.desk.run c.fitted.ensures.desk.at low so)
    c.cut_with.ensures.stops
