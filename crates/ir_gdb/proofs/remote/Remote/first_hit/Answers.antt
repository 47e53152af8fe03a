use Rattle.std.proofs.Common.{subst}
use Rattle.std.specs.Prelude.{IfOk}
use Rattle.ir_cut.specs.Positions.{EachRun}
use Rattle.ir_hits.specs.Hits.{IsFirstHit}
use Rattle.ir_gdb.specs.Serving.{Serving}
use Rattle.ir_gdb.specs.Stops.{position_of}
use Rattle.ir_gdb.proofs.remote.Remote.first_hit.Goals as goal

pub returns-clause-finds : goal.returns-clause-finds
returns-clause-finds g c =
    subst (λ (x : Serving). IfOk c.search.result (λ hit. EachRun x.stub.desk.fitted (λ run. IsFirstHit x.stub.desk.fitted run c.args.points.now c.args.thread
    (position_of x.stub c.args.thread) hit))) c.self.view_is c.search.ensures.finds
