-- Tables with one entry changed.
use Rattle.std.proofs.Common.{◌≡◌, ◌≢◌, ℕ, cond, eqb, refl, ap, eq-eqb, ne_eqb}
use Rattle.std.proofs.Math.Path.{fun_ext}
use Rattle.std.proofs.lemmas.Bool.{cond_both, eqb-false, cases_eq}
use Rattle.std.proofs.Common.{eqb-true, inl, inr, sym, ◌∙◌}
use Rattle.ir_runs.specs.Machine.{upd}

pub upd_at_own_place : {A : Type 0} (f : ℕ → A) (i : ℕ) (v : A) → upd f i v i ≡ v
unfolding upd
upd_at_own_place f i v = ap (λ b. cond b v (f i)) (eq-eqb i i refl)

pub upd_at_other_place : {A : Type 0} (f : ℕ → A) (i j : ℕ) (v : A) → j ≢ i → upd f i v j ≡ f j
unfolding upd
upd_at_other_place f i j v ne = ap (λ b. cond b v (f j)) (ne_eqb j i ne)

pub upd_by_cases : {A : Type 0} (f : ℕ → A) (i : ℕ) (v : A) (j : ℕ) (P : A → Type 0) → (j ≡ i → P v) → (j ≢ i → P (f j)) → P (upd f i v j)
unfolding upd
upd_by_cases f i v j P same other = cond_both (eqb j i) v (f j) P (λ e. same (eqb-true j i e)) (λ e. other (eqb-false j i e))

-- what was there, written again
pub upd_with_old_value : {A : Type 0} (f : ℕ → A) (i : ℕ) (v : A) → f i ≡ v → upd f i v ≡ f
upd_with_old_value {A} f i v e = fun_ext (λ j. elim (cases_eq j i) [
  | inl same ↦ ap (upd f i v) same ∙ upd_at_own_place f i v ∙ sym e ∙ ap f (sym same)
  | inr ne ↦ upd_at_other_place f i j v ne
])
