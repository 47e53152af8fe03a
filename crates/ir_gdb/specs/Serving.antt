-- The stub, and beside it the guest's threads and objects at some consistent cut.
use Rattle.ir_cut.specs.Positions.{cut_of}
use Rattle.ir_weave.specs.Standing.{Standing, StandsAtCut}
use Rattle.ir_debug.specs.Debugging.{Debugging}
use Rattle.ir_gdb.specs.Stub.{Stub}

pub record Serving : Type 0 where
  pub stub : Stub
  pub state : Standing

-- the guest at the stub's cut
abbrev pub IsRemoteThere : Serving → Type 0
IsRemoteThere s = StandsAtCut s.stub.desk.fitted (cut_of s.stub.desk.at) s.state

-- the debugger of a session beside gdb's threads and points
abbrev pub debugging_of : Serving → Debugging
debugging_of s = record { desk = s.stub.desk; state = s.state }
