-- What an answer of the assembler says of a source.
use Rattle.std.specs.Prelude.{◌≡◌, ℕ, Result, Ok, Err}
use Rattle.ir_asm.specs.declared.asm_err.AsmErr.{AsmErr}
use Rattle.ir_asm.specs.declared.asm_err.AsmErr.TheVariants.{At, NoMem}
use Rattle.ir_asm.specs.declared.refusal.Refusal.{Refusal}
use Rattle.ir_asm.specs.declared.refusal.Refusal.TheVariants as refusal
use Rattle.ir_asm.specs.Source.{Fault}

-- an answer, seen by a view, is what the passes give or their first fault, unless memory ran out
abbrev pub AnswersSource : {X Y : Type 0} → (X → Y) → Result X AsmErr → Result Y Fault → Type 0
AnswersSource view (Ok x) passes = passes ≡ Ok (view x)
AnswersSource view (Err (At line cause)) passes = passes ≡ Err (record { line = line; cause = cause })
AnswersSource view (Err NoMem) passes = Unit {0}

-- what was refused in a line
abbrev pub refused : ℕ → Refusal → AsmErr
refused line (refusal.Faulty cause) = At line cause
refused line refusal.NoMem = NoMem
