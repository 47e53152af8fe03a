use Rattle.std.proofs.Common.{sym, subst}
use Rattle.ir_timeline.specs.Hand.{IsCutOf}
use Rattle.ir_gdb.specs.Serving.{Serving}
use Rattle.ir_gdb.proofs.InSight.{met_place_of_visit}
use Rattle.ir_gdb.proofs.Stopping.{serving_seen}
use Rattle.ir_gdb.proofs.remote.Remote.met_break.Goals as goal

pub visit-requires-after_bounds : goal.visit-requires-after_bounds
visit-requires-after_bounds g c κs within =
    subst (λ (x : Serving). IsCutOf x.stub.desk.fitted c.args.cut.now) (sym c.self.view_is) c.requires.cut

pub returns-clause-met : goal.returns-clause-met
returns-clause-met g c =
    met_place_of_visit (serving_seen c.self.view_is) c.args.self.now c.visit.new.self.desk c.args.cut.now c.args.thread c.met_here-place.result
    c.self.view_is c.visit.ensures.desk c.met_here-place.ensures.met
