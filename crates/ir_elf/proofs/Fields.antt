-- What is known of fields that were read.
use Rattle.std.proofs.Common.{◌≡◌, ℕ, zero, suc, List, [], ◌∷◌, length, None, Ok, ap, subst, refl}
use Rattle.std.specs.List.{AllByRecursion}
use Rattle.ir_bytes.specs.Reading.{Reader, Field, judged, number_at, field_at, fields_at}
use Rattle.ir_bytes.proofs.CallerLemmas.{two_binds_are_ok, three_binds_are_ok, no_fault_if_judged_ok, ok_is_injective}

-- what a field holds passes its test
pub field_read_passes_test : {E : Type 0} (short : E) (f : Field E) (bytes : List ℕ) (n : ℕ × List ℕ) → field_at short f bytes ≡ Ok n
    → f.fault n.0 ≡ None
unfolding field_at
field_read_passes_test {E} short f bytes n e =
    two_binds_are_ok (number_at short f.size bytes) (λ m. judged (f.fault m.0) m) n e (λ m e0 e1.
    let g = no_fault_if_judged_ok (f.fault m.0) m n e1 in
    subst (λ (x : ℕ × List ℕ). f.fault x.0 ≡ None) g.1 g.0)

-- as many as were asked for, and each as its reader says
pub record AreRead {X : Type 0} (P : X → Type 0) (n : ℕ) (xs : List X) : Type 0 where
  pub count : length xs ≡ n
  pub each : AllByRecursion P xs

pub fields_at_are_read : {X E : Type 0} (P : X → Type 0) (read : Reader X E) → ((bytes : List ℕ) (x : X × List ℕ) → read bytes ≡ Ok x → P x.0)
    → (n : ℕ) (bytes : List ℕ) (x : List X × List ℕ) → fields_at read n bytes ≡ Ok x → AreRead P n x.0
unfolding fields_at
fields_at_are_read {X} {E} P read one zero bytes x e =
    subst (λ (y : List X × List ℕ). AreRead P 0 y.0) (ok_is_injective E ([], bytes) x e) (record { count = refl; each = tt })
fields_at_are_read {X} {E} P read one (suc n) bytes x e =
    three_binds_are_ok (read bytes) (λ first. fields_at read n first.1) (λ first others. Ok (first.0 ∷ others.0, others.1)) x e
    (λ first others e0 e1 e2.
    let rest = fields_at_are_read P read one n first.1 others e1 in
    subst (λ (y : List X × List ℕ). AreRead P (suc n) y.0) (ok_is_injective E (first.0 ∷ others.0, others.1) x e2)
    (record { count = ap suc rest.count; each = (one bytes first e0, rest.each) }))
