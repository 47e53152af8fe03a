-- What is known of the steps of a reading that met no fault.
use Rattle.std.proofs.Common.{◌≡◌, ℕ, ◌≤◌, Bool, true, false, cond, leb, eqb, Option, Some, None, Result, Ok, Err, refl}
use Rattle.std.specs.Prelude.{◌&&◌}
use Rattle.std.proofs.lemmas.Bool.{leb-true, le-leb, eqb-true, eq-eqb, and_parts}
use Rattle.ir_bytes.specs.Reading.{◌>>=◌, judged}

-- each value of a chain is a variable of its own in what follows
pub two_binds_are_ok : {A Y P E : Type 0} (r : Result A E) (f : A → Result Y E) (y : Y) → (r >>= f) ≡ Ok y → ((a : A) → r ≡ Ok a → f a ≡ Ok y → P)
    → P
two_binds_are_ok (Ok a) f y e go = go a refl e
two_binds_are_ok (Err x) f y e go = absurd cc

pub three_binds_are_ok : {A B Y P E : Type 0} (r : Result A E) (f : A → Result B E) (g : A → B → Result Y E) (y : Y)
    → (r >>= λ a. f a >>= λ b. g a b) ≡ Ok y
    → ((a : A) (b : B) → r ≡ Ok a → f a ≡ Ok b → g a b ≡ Ok y → P) → P
three_binds_are_ok (Ok a) f g y e go = two_binds_are_ok (f a) (g a) y e (λ b. go a b refl)
three_binds_are_ok (Err x) f g y e go = absurd cc

pub four_binds_are_ok : {A B C Y P E : Type 0} (r : Result A E) (f : A → Result B E) (g : A → B → Result C E) (h : A → B → C → Result Y E) (y : Y)
    → (r >>= λ a. f a >>= λ b. g a b >>= λ c. h a b c) ≡ Ok y
    → ((a : A) (b : B) (c : C) → r ≡ Ok a → f a ≡ Ok b → g a b ≡ Ok c → h a b c ≡ Ok y → P) → P
four_binds_are_ok (Ok a) f g h y e go = three_binds_are_ok (f a) (g a) (h a) y e (λ b c. go a b c refl)
four_binds_are_ok (Err x) f g h y e go = absurd cc

pub five_binds_are_ok : {A B C D Y P E : Type 0} (r : Result A E) (f : A → Result B E) (g : A → B → Result C E) (h : A → B → C → Result D E)
    (k : A → B → C → D → Result Y E) (y : Y)
    → (r >>= λ a. f a >>= λ b. g a b >>= λ c. h a b c >>= λ d. k a b c d) ≡ Ok y
    → ((a : A) (b : B) (c : C) (d : D) → r ≡ Ok a → f a ≡ Ok b → g a b ≡ Ok c → h a b c ≡ Ok d → k a b c d ≡ Ok y → P) → P
five_binds_are_ok (Ok a) f g h k y e go = four_binds_are_ok (f a) (g a) (h a) (k a) y e (λ b c d. go a b c d refl)
five_binds_are_ok (Err x) f g h k y e go = absurd cc

pub six_binds_are_ok : {A B C D F Y P E : Type 0} (r : Result A E) (f : A → Result B E) (g : A → B → Result C E) (h : A → B → C → Result D E)
    (k : A → B → C → D → Result F E) (m : A → B → C → D → F → Result Y E) (y : Y)
    → (r >>= λ a. f a >>= λ b. g a b >>= λ c. h a b c >>= λ d. k a b c d >>= λ x. m a b c d x) ≡ Ok y
    → ((a : A) (b : B) (c : C) (d : D) (x : F) → r ≡ Ok a → f a ≡ Ok b → g a b ≡ Ok c → h a b c ≡ Ok d → k a b c d ≡ Ok x → m a b c d x ≡
    Ok y → P) → P
six_binds_are_ok (Ok a) f g h k m y e go = five_binds_are_ok (f a) (g a) (h a) (k a) (m a) y e (λ b c d x. go a b c d x refl)
six_binds_are_ok (Err x) f g h k m y e go = absurd cc

-- a test that found no fault
pub guard_passed_if_ok : {A E : Type 0} (b : Bool) (d : E) (x : Result A E) (y : A) → cond b (Err d) x ≡ Ok y → (b ≡ false) × (x ≡ Ok y)
guard_passed_if_ok true d x y e = absurd cc
guard_passed_if_ok false d x y e = (refl, e)

-- a test that was passed
pub test_passed_if_ok : {A E : Type 0} (b : Bool) (d : E) (x y : A) → cond b (Ok x) (Err d) ≡ Ok y → (b ≡ true) × (x ≡ y)
test_passed_if_ok true d x y e = (refl, cc)
test_passed_if_ok false d x y e = absurd cc

-- a test that found a fault
pub test_failed_if_error : {A E : Type 0} (b : Bool) (d e : E) (x : A) → cond b (Err d) (Ok x) ≡ Err e → (b ≡ true) × (d ≡ e)
test_failed_if_error true d e x h = (refl, cc)
test_failed_if_error false d e x h = absurd cc

-- no fault was found
pub no_fault_if_judged_ok : {A E : Type 0} (o : Option E) (x y : A) → judged o x ≡ Ok y → (o ≡ None) × (x ≡ y)
no_fault_if_judged_ok (Some d) x y e = absurd cc
no_fault_if_judged_ok None x y e = (refl, cc)

-- which way a test went
pub conditional_cases : {A P : Type 0} (b : Bool) (x y z : A) → cond b x y ≡ z → (b ≡ true → x ≡ z → P) → (b ≡ false → y ≡ z → P) → P
conditional_cases true x y z e f g = f refl e
conditional_cases false x y z e f g = g refl e

abbrev pub ok_of : (E : Type 0) {A : Type 0} → A → Result A E
ok_of E x = Ok x

pub ok_is_injective : {A : Type 0} (E : Type 0) (x y : A) → ok_of E x ≡ ok_of E y → x ≡ y
ok_is_injective E x y e = cc

-- ---- tests of numbers

abbrev pub no_fault : (E : Type 0) → Option E
no_fault E = None

-- a number that has no fault passed
pub test_true_if_no_fault : {E : Type 0} (b : Bool) (e : E) → cond b (no_fault E) (Some e) ≡ None → b ≡ true
test_true_if_no_fault true e h = refl
test_true_if_no_fault false e h = absurd cc

-- a number that passes has no fault
pub no_fault_if_test_true : {E : Type 0} (b : Bool) (e : E) → b ≡ true → cond b (no_fault E) (Some e) ≡ None
no_fault_if_test_true b e h = rw h refl

pub number_is_fixed : {E : Type 0} (number n : ℕ) (e : E) → cond (eqb n number) (no_fault E) (Some e) ≡ None → n ≡ number
number_is_fixed number n e h = eqb-true n number (test_true_if_no_fault (eqb n number) e h)

pub fixed_number_no_fault : {E : Type 0} (number : ℕ) (e : E) → cond (eqb number number) (no_fault E) (Some e) ≡ None
fixed_number_no_fault number e = no_fault_if_test_true (eqb number number) e (eq-eqb number number refl)

pub number_within : {E : Type 0} (low high n : ℕ) (e : E) → cond (leb low n && leb n high) (no_fault E) (Some e) ≡ None
    → (low ≤ n) × (n ≤ high)
number_within low high n e h =
    let both = and_parts (leb low n) (leb n high) (test_true_if_no_fault (leb low n && leb n high) e h) in
    (leb-true low n both.0, leb-true n high both.1)

pub within_has_no_fault : {E : Type 0} (low high n : ℕ) (e : E) → low ≤ n → n ≤ high
    → cond (leb low n && leb n high) (no_fault E) (Some e) ≡ None
within_has_no_fault low high n e a b = rw (le-leb low n a, le-leb n high b) refl
