-- What follows from how calls end.
use Rattle.std.proofs.Common.{◌≡◌, ℕ, suc, ◌-◌, ◌≤◌, ◌<◌, Option, Some, None, refl, sym, ◌∙◌, subst, arith}
use Rattle.std.specs.Prelude.{Result, Ok, Err, OnOk, OnErr, IfErr, IsErrOf}
use Rattle.ir_search.specs.declared.stop.Stop.{Stop}
use Rattle.ir_outcomes.specs.Exploring.{ExploringGoesOn, levels_left}
use Rattle.ir_outcomes.specs.declared.exploring.Exploring.{Exploring}

-- what is so on success, where there is no error
pub ok_fact_if_no_error : {A E P : Type 0} (r : Result A E) → OnErr r ⊥ → OnOk r P → P
ok_fact_if_no_error (Ok x) never p = p
ok_fact_if_no_error (Err e) never p = absurd never

-- what is so of this error
pub known_error_fact : {A E : Type 0} (P : E → Type 0) (r : Result A E) (e : E) → IsErrOf r e → IfErr r P → P e
known_error_fact P r e is p = subst (λ z. IfErr z P) is p

-- what is so of a new value on success, and of the old one, where an error leaves that
pub error_keeps_property : {A E L : Type 0} (P : L → Type 0) (r : Result A E) (new old : L) → OnOk r (P new) → OnErr r (new ≡ old) → P old → P new
error_keeps_property P (Ok x) new old ok same p = ok
error_keeps_property P (Err e) new old ok same p = subst P (sym same) p

-- fewer levels are left once one is gone over
pub fewer_levels_left : (stop : Option Stop) (old new most : ℕ) → old ≤ most → (stop ≡ None → new ≡ suc old)
    → levels_left stop (suc most - new) < levels_left None (suc most - old)
fewer_levels_left None old new most few next = let a = next refl in omega (arith, a, few)
fewer_levels_left (Some why) old new most few next = omega arith

-- a search that has gone on once and once more
pub exploring_goes_on_further : (a b c : Exploring) → ExploringGoesOn a b → ExploringGoesOn b c → ExploringGoesOn a c
exploring_goes_on_further a b c first next = record {
  is = next.is;
  setup = next.setup ∙ first.setup;
  bounds = next.bounds ∙ first.bounds;
  most = next.most ∙ first.most;
}
