use Rattle.std.proofs.Common.{sym, subst}
use Rattle.ir_cut.specs.Positions.{IsConsistentCut}
use Rattle.ir_gdb.specs.Serving.{Serving}
use Rattle.ir_gdb.proofs.remote.Remote.settle.Goals as goal

pub go_to-requires-clause-consistent : goal.go_to-requires-clause-consistent
go_to-requires-clause-consistent g c κs within =
    subst (λ (x : Serving). IsConsistentCut x.stub.desk.fitted c.args.cut) (sym c.self.view_is) c.requires.cut.1
