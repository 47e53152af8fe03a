-- What the stub always holds, over another answer of the small machine.
use Rattle.std.proofs.Common.{◌≡◌, ◌<◌, sym, subst}
use Rattle.ir_fit.specs.Fit.{FittedTrace}
use Rattle.ir_cut.specs.Positions.{threads_of}
use Rattle.ir_debug.specs.Machine.{Desk}
use Rattle.ir_gdb.specs.Stub.{Stub, IsStub, IsChoice}

pub stub_with_other_desk : (s : Stub) (d : Desk) → d.fitted ≡ s.desk.fitted → IsStub s → IsStub (record s { desk = d })
stub_with_other_desk s d same is = record {
  general = subst (λ (f : FittedTrace). s.general < threads_of f) (sym same) is.general;
  chosen = subst (λ (f : FittedTrace). IsChoice f s.chosen) (sym same) is.chosen;
  current = subst (λ (f : FittedTrace). s.current < threads_of f) (sym same) is.current;
  told = subst (λ (f : FittedTrace). s.told.thread < threads_of f) (sym same) is.told;
  watches = is.watches;
  few = is.few;
}
