-- Steps that met no fault.
use Rattle.std.proofs.Common.{◌≡◌, ℕ, Bool, true, false, ap, refl, Option, Some, None, Result, Ok, Err}
use Rattle.ir_lemmas.proofs.CallerLemmas.{ok_is_injective}
use Rattle.ir_asm.specs.declared.cause.Cause.{Cause}
use Rattle.ir_asm.specs.Faults.{◌>>=◌, or_cause, fault_unless}
use Rattle.ir_asm.specs.Source.{at_line}

-- a step, and what follows it
pub parts_of_ok_bind : {A B E : Type 0} (r : Result A E) (f : A → Result B E) (y : B) → (r >>= f) ≡ Ok y → (x : A) × (r ≡ Ok x) × (f x ≡ Ok y)
parts_of_ok_bind (Ok x) f y e = (x, refl, e)
parts_of_ok_bind (Err c) f y e = absurd (cc e)

-- a step after a test
pub parts_of_ok_unless : {A : Type 0} (b : Bool) (c : Cause) (r : Result A Cause) (y : A) → fault_unless b c r ≡ Ok y → (b ≡ true) × (r ≡ Ok y)
parts_of_ok_unless true c r y e = (refl, e)
parts_of_ok_unless false c r y e = absurd (cc e)

-- a value after a test
pub ok_unless_parts : {A : Type 0} (b : Bool) (c : Cause) (x y : A) → fault_unless b c (Ok x) ≡ Ok y → (b ≡ true) × (x ≡ y)
ok_unless_parts b c x y e = let u = parts_of_ok_unless b c (Ok x) y e in (u.0, ok_is_injective x y u.1)

pub or_cause_ok_is_some : {A : Type 0} (c : Cause) (o : Option A) (y : A) → or_cause c o ≡ Ok y → o ≡ Some y
or_cause_ok_is_some c (Some x) y e = ap Some (ok_is_injective x y e)
or_cause_ok_is_some c None y e = absurd (cc e)

pub ok_if_at_line_is_ok : {A : Type 0} (line : ℕ) (r : Result A Cause) (y : A) → at_line line r ≡ Ok y → r ≡ Ok y
ok_if_at_line_is_ok line (Ok x) y e = ap (λ z. Ok z) (ok_is_injective x y e)
ok_if_at_line_is_ok line (Err c) y e = absurd (cc e)
