use Rattle.std.proofs.Common.{subst}
use Rattle.std.specs.Prelude.{IfOk}
use Rattle.std.proofs.lemmas.Result.{IfOk-weaker}
use Rattle.ir_cut.specs.Positions.{EachRun}
use Rattle.ir_hits.specs.Hits.{IsLastHit}
use Rattle.ir_gdb.specs.Serving.{Serving}
use Rattle.ir_gdb.specs.Stops.{position_of}
use Rattle.ir_gdb.proofs.Previous.{last_hit_is_below}
use Rattle.ir_gdb.proofs.remote.Remote.last_hit.Goals as goal

pub returns-clause-finds : goal.returns-clause-finds
returns-clause-finds g c =
    subst (λ (x : Serving). IfOk c.search.result (λ hit. EachRun x.stub.desk.fitted (λ run. IsLastHit x.stub.desk.fitted run c.args.points.now c.args.thread
    (position_of x.stub c.args.thread) hit))) c.self.view_is c.search.ensures.finds

pub returns-clause-below : goal.returns-clause-below
returns-clause-below g c =
    let s = c.args.self.now.stub in
    IfOk-weaker c.search.result _ _
    (λ hit finds. last_hit_is_below s.desk.fitted c.args.points.now c.args.thread (position_of s c.args.thread) hit c.has_run.ensures finds)
    (subst (λ (x : Serving). IfOk c.search.result (λ hit. EachRun x.stub.desk.fitted (λ run. IsLastHit x.stub.desk.fitted run c.args.points.now c.args.thread
    (position_of x.stub c.args.thread) hit))) c.self.view_is c.search.ensures.finds)
