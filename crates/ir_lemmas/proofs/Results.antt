-- What follows from how calls end.
use Rattle.std.proofs.Common.{Err, Ok, OnErr, OnOk, Result, ap, ◌≡◌}
use Rattle.std.specs.Prelude.{IfOk}

pub if_ok_of_implied : {A E : Type 0} (P Q : A → Type 0) (result : Result A E) → ((x : A) → P x → Q x) → IfOk result P → IfOk result Q
if_ok_of_implied P Q (Ok x) each h = each x h
if_ok_of_implied P Q (Err e) each h = tt

pub ok_is_injective : {A E : Type 0} (x y : A) → (let r : Result A E = Ok x in r) ≡ Ok y → x ≡ y
ok_is_injective {A} {E} x y e = ap value e
  where
    value : Result A E → A
    value (Ok z) = z
    value (Err z) = x

-- what holds, holds at an error
pub on_err_holds : {A E P : Type 0} (result : Result A E) → P → OnErr result P
on_err_holds (Ok x) h = tt
on_err_holds (Err e) h = h

-- what follows from what is so on success
pub on_ok_of_implied : {A E P Q : Type 0} (r : Result A E) → (P → Q) → OnOk r P → OnOk r Q
on_ok_of_implied (Ok x) f p = f p
on_ok_of_implied (Err e) f p = tt

-- there was the step, so it was taken
pub ok_fact_holds : {X E : Type 0} (result : Result X E) (P Q : Type 0) → P → OnErr result (P → ⊥) → OnOk result Q → Q
ok_fact_holds (Ok x) P Q p err ok = ok
ok_fact_holds (Err e) P Q p err ok = absurd (err p)
