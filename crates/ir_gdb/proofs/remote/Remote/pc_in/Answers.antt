use Rattle.std.proofs.Common.{sym, subst}
use Rattle.ir_timeline.specs.Hand.{IsCutOf}
use Rattle.ir_gdb.specs.Serving.{Serving}
use Rattle.ir_gdb.proofs.remote.Remote.pc_in.Goals as goal

pub visit-requires-after_bounds : goal.visit-requires-after_bounds
visit-requires-after_bounds g c κs within =
    subst (λ (x : Serving). IsCutOf x.stub.desk.fitted c.args.cut.now) (sym c.self.view_is) c.requires.cut
