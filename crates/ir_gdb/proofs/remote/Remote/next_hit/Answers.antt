use Rattle.std.proofs.Common.{sym, subst}
use Rattle.std.specs.Prelude.{IfOk}
use Rattle.std.proofs.lemmas.Result.{IfOk-weaker}
use Rattle.ir_cut.specs.Positions.{EachRun, cut_of}
use Rattle.ir_hits.specs.Searching.{IsNextHit}
use Rattle.ir_timeline.specs.Hand.{IsCutOf}
use Rattle.ir_gdb.specs.Serving.{Serving}
use Rattle.ir_gdb.proofs.Nexts.{next_hit_is_between}
use Rattle.ir_gdb.proofs.remote.Remote.next_hit.Goals as goal

pub search_up_to-requires-clause-cut : goal.search_up_to-requires-clause-cut
search_up_to-requires-clause-cut g c κs within = subst (λ (x : Serving). IsCutOf x.stub.desk.fitted c.args.from.now) (sym c.self.view_is) c.requires.cut

pub returns-clause-finds : goal.returns-clause-finds
returns-clause-finds g c =
    subst (λ (x : Serving). IfOk c.search_up_to.result (λ hit. EachRun x.stub.desk.fitted (λ run. IsNextHit x.stub.desk.fitted run c.args.points.now c.args.thread
    (cut_of c.args.from.now c.args.thread) c.args.to hit))) c.self.view_is c.search_up_to.ensures.finds

pub returns-clause-between : goal.returns-clause-between
returns-clause-between g c =
    let f = c.args.self.now.stub.desk.fitted in
    IfOk-weaker c.search_up_to.result _ _
    (λ hit finds. next_hit_is_between f c.args.points.now c.args.thread (cut_of c.args.from.now c.args.thread) c.args.to hit c.has_run.ensures finds)
    (subst (λ (x : Serving). IfOk c.search_up_to.result (λ hit. EachRun x.stub.desk.fitted (λ run. IsNextHit x.stub.desk.fitted run c.args.points.now c.args.thread
    (cut_of c.args.from.now c.args.thread) c.args.to hit))) c.self.view_is c.search_up_to.ensures.finds)
