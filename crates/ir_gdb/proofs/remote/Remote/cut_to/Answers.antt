use Rattle.std.proofs.Common.{◌≡◌, length, subst}
use Rattle.std.specs.Prelude.{IfOk}
use Rattle.ir_cut.specs.Positions.{EachRun, IsConsistentCut, threads_of}
use Rattle.ir_timeline.specs.Hand.{IsCutOf}
use Rattle.ir_gdb.specs.Serving.{Serving}
use Rattle.ir_gdb.specs.Together.{Comes}
use Rattle.ir_gdb.proofs.There.{if_ok_of_both_facts}
use Rattle.ir_gdb.proofs.remote.Remote.cut_to.Goals as goal

pub returns-clause-comes : goal.returns-clause-comes
returns-clause-comes c =
    subst (λ (s : Serving). IfOk c.cut_with.result (λ cut. EachRun s.stub.desk.fitted (λ run. Comes run s.stub c.args.direction c.args.thread c.args.position cut)))
    c.self.view_is c.cut_with.ensures.stops

pub returns-clause-cut : goal.returns-clause-cut
returns-clause-cut c =
    let f = c.self.inside.debugger.desk.fitted in
    subst (λ (s : Serving). IfOk c.cut_with.result (λ cut. IsCutOf s.stub.desk.fitted cut)) c.self.view_is
    (if_ok_of_both_facts c.cut_with.result (λ cut. length cut ≡ threads_of f) (λ cut. IsConsistentCut f cut) c.cut_with.ensures.size c.cut_with.ensures.consistent)
