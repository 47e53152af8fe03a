-- How a session over lines ends.
use Rattle.std.specs.Prelude.{◌≡◌, ℕ, Bool, true, false, ⊤, List, Ok, Err}
use Rattle.std.specs.declared.option.Option.{Option}
use Rattle.std.specs.declared.result.Result.{Result}
use Rattle.ir_stream.specs.declared.serving.Served.{Served}
use Rattle.ir_stream.specs.declared.serving.Served.TheVariants.{Quit, InputEnd}
use Rattle.ir_stream.specs.declared.serving.Fault.{Fault}
use Rattle.ir_stream.specs.declared.serving.Fault.TheVariants.{Read, Write, TooLong}
use Rattle.ir_stream.specs.declared.serving.Flow.{Flow}
use Rattle.ir_stream.specs.declared.serving.Flow.TheVariants.{Goes, Quits}
use Rattle.ir_stream.specs.Answers.{heard, Replying, through, ends}
use Rattle.ir_stream.specs.Written.{Wrote}

-- whether a line that quits was answered
abbrev pub flow_after : Bool → Flow
flow_after true = Quits
flow_after false = Goes

-- the end of an input whose last line quits or doesn't
abbrev pub served_after : Bool → Served
served_after true = Quit
served_after false = InputEnd

-- unless a device failed
abbrev pub IfEnded : Result Served Fault → Type 0 → Type 0
IfEnded (Ok e) P = P
IfEnded (Err Read) P = ⊤
IfEnded (Err Write) P = ⊤
IfEnded (Err TooLong) P = P

-- the input leads to this result, and the writer took the answers to the lines that count
pub record LeadsTo {S : Type 0} (R : Replying S) (quits : List ℕ → Bool) (s : S) (limit : ℕ) (result : Result Served Fault)
    (old new : Option (List ℕ)) (input : List ℕ) : Type 0 where
  pub ending : result ≡ ends quits limit input
  pub wrote : Wrote R s (through quits (heard limit input)) old new
