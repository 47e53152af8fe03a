use Rattle.std.proofs.Common.{List, sym, subst}
use Rattle.ir_gdb.specs.Guards.{Guarded}
use Rattle.ir_gdb.specs.Stub.{IsStub}
use Rattle.ir_gdb.proofs.Setting.{stub_without_break_is_stub}
use Rattle.ir_gdb.proofs.Stopping.{serving_seen}
use Rattle.ir_gdb.proofs.remote.Remote.clear_break.Goals as goal

pub invariant_of-self : goal.invariant_of-self
invariant_of-self c =
    let s = (serving_seen c.self.view_is).stub in
    subst (λ (xs : List Guarded). IsStub (record s { breaks = xs })) (sym c.clear.ensures) (stub_without_break_is_stub s c.args.point c.self.invariant)
