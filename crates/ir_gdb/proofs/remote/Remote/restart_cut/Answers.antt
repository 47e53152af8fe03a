use Rattle.std.proofs.Common.{List, ℕ, sym, subst}
use Rattle.ir_timeline.specs.Hand.{IsCutOf}
use Rattle.ir_gdb.specs.Serving.{Serving}
use Rattle.ir_gdb.proofs.remote.Remote.restart_cut.Goals as goal

pub returns-in_ok-copy-in-Some-kept_cut-clause-cuts : goal.returns-in_ok-copy-in-Some-kept_cut-clause-cuts
returns-in_ok-copy-in-Some-kept_cut-clause-cuts c =
    subst (λ (s : Serving). IsCutOf s.stub.desk.fitted c.in_ok-copy-in-Some-kept_cut.field-0) c.self.view_is
    (subst (λ (x : List ℕ). IsCutOf c.self.inside.debugger.desk.fitted x) (sym c.in_ok-copy-in-Some-kept_cut.ensures) c.in-Some-kept_cut.ensures.cuts)
