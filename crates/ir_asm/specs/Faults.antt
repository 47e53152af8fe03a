-- Steps that may meet a fault.
use Rattle.std.specs.Prelude.{◌≡◌, Bool, Option, Some, None, Result, Ok, Err, if◌then◌else◌}
use Rattle.ir_asm.specs.declared.cause.Cause.{Cause}
use Rattle.ir_asm.specs.declared.refusal.Refusal.{Refusal}
use Rattle.ir_asm.specs.declared.refusal.Refusal.TheVariants.{Faulty, NoMem}

infixl 10 ◌>>=◌
-- a step and what follows it, up to the first fault
abbrev pub ◌>>=◌ : {A B E : Type 0} → Result A E → (A → Result B E) → Result B E
(Ok x) >>= f = f x
(Err e) >>= f = Err e

-- what is there, or else a fault
abbrev pub or_cause : {A : Type 0} → Cause → Option A → Result A Cause
or_cause cause (Some x) = Ok x
or_cause cause None = Err cause

-- a step after a test, which is a fault if it fails
abbrev pub fault_unless : {A : Type 0} → Bool → Cause → Result A Cause → Result A Cause
fault_unless b cause r = if b then r else Err cause

-- an answer, seen by a view, is what a step gives, unless memory ran out
abbrev pub YieldsOrFaults : {X Y : Type 0} → (X → Y) → Result X Refusal → Result Y Cause → Type 0
YieldsOrFaults view (Ok x) step = step ≡ Ok (view x)
YieldsOrFaults view (Err (Faulty cause)) step = step ≡ Err cause
YieldsOrFaults view (Err NoMem) step = Unit {0}

-- a state is what a step gives, unless memory ran out; a fault leaves it open
abbrev pub MakesOrFaults : {A S : Type 0} → S → Result A Refusal → Result S Cause → Type 0
MakesOrFaults state (Ok x) step = step ≡ Ok state
MakesOrFaults state (Err (Faulty cause)) step = step ≡ Err cause
MakesOrFaults state (Err NoMem) step = Unit {0}
