-- Questions of the run that `monitor` asks.
use Rattle.std.specs.Prelude.{◌≡◌, ℕ, List}
use Rattle.ir_monitor.specs.Answers.{IsAnswerTo}
use Rattle.ir_monitor.specs.declared.asked.Asked.{Asked}
use Rattle.ir_monitor.specs.declared.here.Here.{Here}
use Rattle.ir_gdb.specs.Stops.{position_of}
use Rattle.ir_gdb.specs.Stub.{Stub}

-- the current thread, and its position
abbrev pub here_of : Stub → Here
here_of s = record { thread = s.current; position = position_of s s.current }

-- a question is answered by what the command prints of the run, and the stub stays as it is
abbrev pub AnswersQuestion : Stub → Asked → List ℕ → Stub → Type 0
AnswersQuestion s asked answer next = IsAnswerTo s.desk.fitted (here_of s) asked answer × (next ≡ s)
