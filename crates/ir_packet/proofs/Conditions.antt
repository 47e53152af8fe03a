-- Conditions of a breakpoint, one after the other.
use Rattle.std.proofs.Common.{◌≡◌, ◌-◌, ◌∙◌, ℕ, zero, suc, true, false, List, [], ◌∷◌, ◌++◌, length, Option, Some, None, is_some, option_map, append-nil, append_assoc, refl, sym, ap, arith}
use Rattle.std.specs.Prelude.{unwrap_or}
use Rattle.ir_packet.specs.Numbers.{bytes_of_pairs}
use Rattle.ir_packet.specs.Requests.{ConditionText, first_condition, more_conditions, conditions_in}

-- ---- a text by its first condition

pub conditions_of_nothing : (n : ℕ) (text : List ℕ) → length text ≡ 0 → conditions_in n text ≡ Some []
unfolding conditions_in
conditions_of_nothing n [] none = refl
conditions_of_nothing n (b ∷ text) none = absurd (omega (arith, none))

pub no_conditions_are_no_text : (text : List ℕ) → (length text ≡ 0 → ⊥) → conditions_in 0 text ≡ None
unfolding conditions_in
no_conditions_are_no_text [] some = absurd (some refl)
no_conditions_are_no_text (b ∷ text) some = refl

pub first_condition_and_rest : (n : ℕ) (text : List ℕ) → (n ≡ 0 → ⊥) → (length text ≡ 0 → ⊥)
    → conditions_in n text ≡ more_conditions (conditions_in (n - 1)) (first_condition text)
unfolding conditions_in
first_condition_and_rest zero text more some = absurd (more refl)
first_condition_and_rest (suc n) [] more some = absurd (some refl)
first_condition_and_rest (suc n) (b ∷ text) more some =
    let less : n ≡ suc n - 1 = omega arith in
    ap (λ k. more_conditions (conditions_in k) (first_condition (b ∷ text))) less

-- ---- whether there are any

some_of_mapped : {A B : Type 0} (f : A → B) (x : Option A) → is_some (option_map f x) ≡ is_some x
some_of_mapped f None = refl
some_of_mapped f (Some a) = refl

pub are_conditions_if_rest_are : (n : ℕ) (text : List ℕ) (c : ConditionText) → (n ≡ 0 → ⊥) → (length text ≡ 0 → ⊥) → first_condition text ≡ Some c
    → is_some (conditions_in (n - 1) c.rest) ≡ is_some (conditions_in n text)
are_conditions_if_rest_are n text c more some first =
    sym (ap is_some (first_condition_and_rest n text more some) ∙ ap (λ x. is_some (more_conditions (conditions_in (n - 1)) x)) first
    ∙ some_of_mapped (λ cs. bytes_of_pairs c.digits ∷ cs) (conditions_in (n - 1) c.rest))

pub are_none_without_first : (n : ℕ) (text : List ℕ) → (n ≡ 0 → ⊥) → (length text ≡ 0 → ⊥) → first_condition text ≡ None → conditions_in n text ≡ None
are_none_without_first n text more some first =
    first_condition_and_rest n text more some ∙ ap (more_conditions (conditions_in (n - 1))) first

-- ---- put at the end

pub nothing_is_put : (old each : List (List ℕ)) (n : ℕ) (text : List ℕ) → length text ≡ 0 → conditions_in n text ≡ Some each → old ≡ old ++ each
nothing_is_put old each n text none are =
    let both : ◌≡◌ {A = Option (List (List ℕ))} (Some []) (Some each) = sym (conditions_of_nothing n text none) ∙ are in
    let nothing : [] ≡ each = cc both in
    sym (append-nil old) ∙ ap (λ xs. old ++ xs) nothing

joined : (old mid new : List (List ℕ)) (code : List ℕ) (more : Option (List (List ℕ))) (each : List (List ℕ)) → mid ≡ old ++ code ∷ []
    → ((cs : List (List ℕ)) → more ≡ Some cs → new ≡ mid ++ cs) → option_map (λ cs. code ∷ cs) more ≡ Some each → new ≡ old ++ each
joined old mid new code None each put rest are = absurd (cc are)
joined old mid new code (Some cs) each put rest are =
    let all : code ∷ cs ≡ each = cc are in
    rest cs refl ∙ ap (λ xs. xs ++ cs) put ∙ append_assoc old (code ∷ []) cs ∙ ap (λ xs. old ++ xs) all

pub first_and_rest_are_put : (old mid new : List (List ℕ)) (n : ℕ) (text : List ℕ) (c : ConditionText) (each : List (List ℕ)) → (n ≡ 0 → ⊥) → (length text ≡ 0 → ⊥)
    → first_condition text ≡ Some c → mid ≡ old ++ bytes_of_pairs c.digits ∷ []
    → ((cs : List (List ℕ)) → conditions_in (n - 1) c.rest ≡ Some cs → new ≡ mid ++ cs) → conditions_in n text ≡ Some each → new ≡ old ++ each
first_and_rest_are_put old mid new n text c each more some first put rest are =
    joined old mid new (bytes_of_pairs c.digits) (conditions_in (n - 1) c.rest) each put rest
    (sym (ap (more_conditions (conditions_in (n - 1))) first) ∙ sym (first_condition_and_rest n text more some) ∙ are)

-- ---- all of a text

pub all_are_put : (x : Option (List (List ℕ))) (old items : List (List ℕ)) → is_some x ≡ true → old ≡ []
    → ((each : List (List ℕ)) → x ≡ Some each → items ≡ old ++ each) → items ≡ unwrap_or x []
all_are_put None old items some none put = absurd (cc some)
all_are_put (Some each) old items some none put = put each refl ∙ ap (λ xs. xs ++ each) none

pub none_are_put : (x : Option (List (List ℕ))) (items : List (List ℕ)) → is_some x ≡ false → items ≡ [] → items ≡ unwrap_or x []
none_are_put None items some none = none
none_are_put (Some each) items some none = absurd (cc some)
