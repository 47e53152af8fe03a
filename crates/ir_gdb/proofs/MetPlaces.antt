-- The first breakpoint of which a condition is met.
use Rattle.std.proofs.Common.{◌≡◌, ◌<◌, ◌+◌, ◌∙◌, ℕ, zero, suc, Bool, true, false, true≢false, List, [], ◌∷◌, Option, Some, None, refl, sym, subst, arith}
use Rattle.std.specs.Prelude.{◌&&◌, ◌==◌, slice_get, option_map, if◌then◌else◌}
use Rattle.std.proofs.lemmas.Bool.Decides.{nat_tests}
use Rattle.ir_agent.specs.Evaluation.{Seen}
use Rattle.ir_gdb.specs.Guards.{Guarded, is_guarded}
use Rattle.ir_gdb.specs.Conditions.{any_holds, is_met_at, first_met_place}
use Rattle.ir_gdb.proofs.Setting.{each_of_three_is_true}

-- ---- three tests

all_hold_if_each_does : (p q r : Bool) → p ≡ true → q ≡ true → r ≡ true → (p && (q && r)) ≡ true
all_hold_if_each_does true true true a b c = refl
all_hold_if_each_does true true false a b c = absurd (true≢false (sym c))
all_hold_if_each_does true false r a b c = absurd (true≢false (sym b))
all_hold_if_each_does false q r a b c = absurd (true≢false (sym a))

-- what is met is a breakpoint with conditions, at the address, of which one is met
pub record IsMet (seen : Seen) (address : ℕ) (b : Guarded) : Type 0 where
  pub guarded : is_guarded b ≡ true
  pub here : b.point.address ≡ address
  pub holds : any_holds seen b.conditions ≡ true

pub met_is_guarded_here : (seen : Seen) (address : ℕ) (b : Guarded) → is_met_at seen address b ≡ true → IsMet seen address b
met_is_guarded_here seen address b met =
    let each = each_of_three_is_true (is_guarded b) (b.point.address == address) (any_holds seen b.conditions) met in
    let test = each.1 in
    record { guarded = each.0; here = grind (arith, nat_tests, test); holds = each.2 }

pub guarded_here_is_met : (seen : Seen) (address : ℕ) (b : Guarded) → IsMet seen address b → is_met_at seen address b ≡ true
guarded_here_is_met seen address b is =
    let at = is.here in
    let test : (b.point.address == address) ≡ true = grind (arith, nat_tests, at) in
    all_hold_if_each_does (is_guarded b) (b.point.address == address) (any_holds seen b.conditions) is.guarded test is.holds

-- ---- the first

pub found_place_is_met : (seen : Seen) (address : ℕ) (breaks : List Guarded) (i : ℕ) → first_met_place seen address breaks ≡ Some i
    → (b : Guarded) × (slice_get breaks i ≡ Some b) × (is_met_at seen address b ≡ true)
unfolding first_met_place
found_place_is_met seen address [] i found = absurd (cc found)
found_place_is_met seen address (x ∷ breaks) i found =
    by (found_place_is_met seen address breaks) (is_met_at seen address x) refl (first_met_place seen address breaks) refl found
  where
    by : ((k : ℕ) → first_met_place seen address breaks ≡ Some k → (b : Guarded) × (slice_get breaks k ≡ Some b) × (is_met_at seen address b ≡ true))
        → (test : Bool) → is_met_at seen address x ≡ test → (rest : Option ℕ) → first_met_place seen address breaks ≡ rest
        → (if test then Some 0 else option_map (λ k. k + 1) rest) ≡ Some i
        → (b : Guarded) × (slice_get (x ∷ breaks) i ≡ Some b) × (is_met_at seen address b ≡ true)
    by among true met rest more is =
        let here : 0 ≡ i = cc is in
        (x, subst (λ (k : ℕ). slice_get (x ∷ breaks) k ≡ Some x) here refl, met)
    by among false isnt None more is = absurd (cc is)
    by among false isnt (Some k) more is =
        let next : k + 1 ≡ i = cc is in
        let same : suc k ≡ i = omega (arith, next) in
        let later = among k more in
        (later.0, subst (λ (m : ℕ). slice_get (x ∷ breaks) m ≡ Some later.0) same later.1, later.2)

pub none_is_met_before_found : (seen : Seen) (address : ℕ) (breaks : List Guarded) (i : ℕ) → first_met_place seen address breaks ≡ Some i
    → (j : ℕ) (b : Guarded) → j < i → slice_get breaks j ≡ Some b → is_met_at seen address b ≡ true → ⊥
unfolding first_met_place
none_is_met_before_found seen address [] i found j b before at met = absurd (cc found)
none_is_met_before_found seen address (x ∷ breaks) i found j b before at met =
    by (λ k more m low later. none_is_met_before_found seen address breaks k more m b low later met) (is_met_at seen address x) refl
    (first_met_place seen address breaks) refl found
  where
    NoneBefore : Type 0
    NoneBefore = (k : ℕ) → first_met_place seen address breaks ≡ Some k → (m : ℕ) → m < k → slice_get breaks m ≡ Some b → ⊥

    here : (k : ℕ) → slice_get (x ∷ breaks) k ≡ Some b → k ≡ 0 → is_met_at seen address x ≡ true
    here zero first is = let same : x ≡ b = cc first in subst (λ (y : Guarded). is_met_at seen address y ≡ true) (sym same) met
    here (suc k) first is = absurd (omega (arith, is))

    beyond : NoneBefore → (k m : ℕ) → slice_get (x ∷ breaks) m ≡ Some b → m < k + 1 → first_met_place seen address breaks ≡ Some k → is_met_at seen address x ≡ false → ⊥
    beyond none k zero first low more isnt = true≢false (sym (here zero first refl) ∙ isnt)
    beyond none k (suc m) later low more isnt = none k more m (omega (arith, low)) later

    by : NoneBefore → (test : Bool) → is_met_at seen address x ≡ test → (rest : Option ℕ) → first_met_place seen address breaks ≡ rest
        → (if test then Some 0 else option_map (λ k. k + 1) rest) ≡ Some i → ⊥
    by none true is_met rest more is = let first : 0 ≡ i = cc is in omega (arith, first, before)
    by none false isnt None more is = absurd (cc is)
    by none false isnt (Some k) more is = let next : k + 1 ≡ i = cc is in beyond none k j at (omega (arith, next, before)) more isnt

pub none_is_met_if_none_found : (seen : Seen) (address : ℕ) (breaks : List Guarded) → first_met_place seen address breaks ≡ None
    → (j : ℕ) (b : Guarded) → slice_get breaks j ≡ Some b → is_met_at seen address b ≡ true → ⊥
unfolding first_met_place
none_is_met_if_none_found seen address [] found j b at met = absurd (cc at)
none_is_met_if_none_found seen address (x ∷ breaks) found j b at met =
    by (λ none k more. none_is_met_if_none_found seen address breaks none k b more met) (is_met_at seen address x) refl
    (first_met_place seen address breaks) refl found
  where
    NoneAmong : Type 0
    NoneAmong = first_met_place seen address breaks ≡ None → (k : ℕ) → slice_get breaks k ≡ Some b → ⊥

    later : NoneAmong → (k : ℕ) → slice_get (x ∷ breaks) k ≡ Some b → first_met_place seen address breaks ≡ None → is_met_at seen address x ≡ false → ⊥
    later among zero first more isnt =
        let same : x ≡ b = cc first in
        true≢false (sym (subst (λ (y : Guarded). is_met_at seen address y ≡ true) (sym same) met) ∙ isnt)
    later among (suc k) more none isnt = among none k more

    by : NoneAmong → (test : Bool) → is_met_at seen address x ≡ test → (rest : Option ℕ) → first_met_place seen address breaks ≡ rest
        → (if test then Some 0 else option_map (λ k. k + 1) rest) ≡ None → ⊥
    by among true is_met rest more is = absurd (cc is)
    by among false isnt None more is = later among j at more isnt
    by among false isnt (Some k) more is = absurd (cc is)
