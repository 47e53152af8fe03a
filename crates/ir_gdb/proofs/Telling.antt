-- A thread that is told leaves the run in hand.
use Rattle.std.proofs.Common.{◌≡◌, sym, subst}
use Rattle.ir_cut.specs.Positions.{cut_of}
use Rattle.ir_weave.specs.Standing.{Standing, StandsAtCut}
use Rattle.ir_gdb.specs.declared.stopped.Told.{Told}
use Rattle.ir_gdb.specs.Stub.{Stub}
use Rattle.ir_gdb.specs.Serving.{Serving, IsRemoteThere}
use Rattle.ir_gdb.specs.Moves.{after_told}

pub is_there_after_told : (a b : Serving) (told : Told) → b.stub ≡ after_told a.stub told → b.state ≡ a.state → IsRemoteThere a → IsRemoteThere b
is_there_after_told a b told stub state there =
    let first = subst (λ (x : Standing). StandsAtCut a.stub.desk.fitted (cut_of a.stub.desk.at) x) (sym state) there in
    subst (λ (x : Stub). StandsAtCut x.desk.fitted (cut_of x.desk.at) b.state) (sym stub) first
