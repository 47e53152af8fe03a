-- Texts that are written in parts.
use Rattle.std.proofs.Common.{◌≡◌, Result, Ok, Err, OnErr, IfErr, sym, subst}

-- ---- what holds at an error

pub on_err_if_holds : {A E : Type 0} (P : Type 0) (r : Result A E) → P → OnErr r P
on_err_if_holds P (Ok x) p = tt
on_err_if_holds P (Err e) p = p

-- the same of the error that a `?` hands on
pub if_err_handed_on : {A E : Type 0} (P : E → Type 0) (r : Result A E) (e other : E) → r ≡ Err other → other ≡ e → P e → IfErr r P
if_err_handed_on P r e other is same p = subst (λ z. IfErr z P) (sym is) (subst P (sym same) p)
