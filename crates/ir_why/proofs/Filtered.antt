-- Elements of lists that are filtered or joined.
use Rattle.std.proofs.Common.{◌≡◌, ℕ, suc, zero, ◌+◌, ◌<◌, Bool, true, false, Some, List, [], ◌∷◌, ◌++◌, if◌then◌else◌, filter, length, refl, sym, ap, ◌∙◌, arith}
use Rattle.std.specs.Prelude.{slice_get}
use Rattle.std.proofs.lemmas.Option.{same_Some, none-some}

-- x is at some place of a list
abbrev pub IsIn : {X : Type 0} → List X → X → Type 0
IsIn xs x = (k : ℕ) × (slice_get xs k ≡ Some x)

-- x is somewhere before y in a list
abbrev pub InOrder : {X : Type 0} → List X → X → X → Type 0
InOrder xs x y = (a b : ℕ) × (a < b) × (slice_get xs a ≡ Some x) × (slice_get xs b ≡ Some y)

pub slice_get_append_right : {X : Type 0} (xs ys : List X) (k : ℕ) (x : X) → slice_get ys k ≡ Some x → slice_get (xs ++ ys) (length xs + k) ≡ Some x
slice_get_append_right [] ys k x e = let same : 0 + k ≡ k = omega arith in ap (λ m. slice_get ys m) same ∙ e
slice_get_append_right (z ∷ zs) ys k x e =
    let same : suc (length zs) + k ≡ suc (length zs + k) = omega arith in
    ap (λ m. slice_get (z ∷ (zs ++ ys)) m) same ∙ slice_get_append_right zs ys k x e

-- ---- what is filtered

filter_sound_step : {X : Type 0} (f : X → Bool) (z : X) (zs : List X) (c : Bool) → f z ≡ c → (k : ℕ) (x : X)
    → slice_get (filter f (z ∷ zs)) k ≡ Some x → ((m : ℕ) (y : X) → slice_get (filter f zs) m ≡ Some y → (f y ≡ true) × IsIn zs y)
    → (f x ≡ true) × IsIn (z ∷ zs) x
filter_sound_step f z zs true e zero x is rest =
    let here : slice_get (filter f (z ∷ zs)) 0 ≡ Some z = ap (λ (c : Bool). slice_get (if c then z ∷ filter f zs else filter f zs) 0) e in
    let same : z ≡ x = same_Some z x (sym here ∙ is) in
    (ap f (sym same) ∙ e, (0, ap Some same))
filter_sound_step f z zs true e (suc k) x is rest =
    let there : slice_get (filter f (z ∷ zs)) (suc k) ≡ slice_get (filter f zs) k = ap (λ (c : Bool). slice_get (if c then z ∷ filter f zs else filter f zs) (suc k)) e in
    let own = rest k x (sym there ∙ is) in
    (own.0, (suc own.1.0, own.1.1))
filter_sound_step f z zs false e k x is rest =
    let there : slice_get (filter f (z ∷ zs)) k ≡ slice_get (filter f zs) k = ap (λ (c : Bool). slice_get (if c then z ∷ filter f zs else filter f zs) k) e in
    let own = rest k x (sym there ∙ is) in
    (own.0, (suc own.1.0, own.1.1))

-- what is in the filtered list passes, and is in the list
pub filter_sound : {X : Type 0} (f : X → Bool) (xs : List X) (k : ℕ) (x : X) → slice_get (filter f xs) k ≡ Some x → (f x ≡ true) × IsIn xs x
filter_sound f [] k x e = absurd (none-some x e)
filter_sound f (z ∷ zs) k x e = filter_sound_step f z zs (f z) refl k x e (filter_sound f zs)

filter_first_passing : {X : Type 0} (f : X → Bool) (z : X) (zs : List X) → f z ≡ true → slice_get (filter f (z ∷ zs)) 0 ≡ Some z
filter_first_passing f z zs e = ap (λ (c : Bool). slice_get (if c then z ∷ filter f zs else filter f zs) 0) e

filter_tail_is_in : {X : Type 0} (f : X → Bool) (z : X) (zs : List X) (c : Bool) → f z ≡ c → (x : X) → IsIn (filter f zs) x → IsIn (filter f (z ∷ zs)) x
filter_tail_is_in f z zs true e x h = (suc h.0, ap (λ (c : Bool). slice_get (if c then z ∷ filter f zs else filter f zs) (suc h.0)) e ∙ h.1)
filter_tail_is_in f z zs false e x h = (h.0, ap (λ (c : Bool). slice_get (if c then z ∷ filter f zs else filter f zs) h.0) e ∙ h.1)

-- what passes is in the filtered list
pub filter_complete : {X : Type 0} (f : X → Bool) (xs : List X) (k : ℕ) (x : X) → slice_get xs k ≡ Some x → f x ≡ true → IsIn (filter f xs) x
filter_complete f [] k x e t = absurd (none-some x e)
filter_complete f (z ∷ zs) zero x e t =
    let same : z ≡ x = same_Some z x e in
    (0, filter_first_passing f z zs (ap f same ∙ t) ∙ ap Some same)
filter_complete f (z ∷ zs) (suc k) x e t = filter_tail_is_in f z zs (f z) refl x (filter_complete f zs k x e t)

filter_keeps_order_step : {X : Type 0} (f : X → Bool) (z : X) (zs : List X) (c : Bool) → f z ≡ c → (a b : ℕ) (x y : X) → a < b
    → slice_get (filter f (z ∷ zs)) a ≡ Some x → slice_get (filter f (z ∷ zs)) b ≡ Some y
    → ((m n : ℕ) (v w : X) → m < n → slice_get (filter f zs) m ≡ Some v → slice_get (filter f zs) n ≡ Some w → InOrder zs v w)
    → InOrder (z ∷ zs) x y
filter_keeps_order_step f z zs true e a zero x y less first second rest = absurd (omega (arith, less))
filter_keeps_order_step f z zs true e zero (suc b) x y less first second rest =
    let there : slice_get (filter f (z ∷ zs)) (suc b) ≡ slice_get (filter f zs) b = ap (λ (c : Bool). slice_get (if c then z ∷ filter f zs else filter f zs) (suc b)) e in
    let own = filter_sound f zs b y (sym there ∙ second) in
    (0, suc own.1.0, omega arith, sym (filter_first_passing f z zs e) ∙ first, own.1.1)
filter_keeps_order_step f z zs true e (suc a) (suc b) x y less first second rest =
    let one : slice_get (filter f (z ∷ zs)) (suc a) ≡ slice_get (filter f zs) a = ap (λ (c : Bool). slice_get (if c then z ∷ filter f zs else filter f zs) (suc a)) e in
    let two : slice_get (filter f (z ∷ zs)) (suc b) ≡ slice_get (filter f zs) b = ap (λ (c : Bool). slice_get (if c then z ∷ filter f zs else filter f zs) (suc b)) e in
    let own = rest a b x y (omega (arith, less)) (sym one ∙ first) (sym two ∙ second) in
    (suc own.0, suc own.1, omega (arith, own.2), own.3, own.4)
filter_keeps_order_step f z zs false e a b x y less first second rest =
    let one : slice_get (filter f (z ∷ zs)) a ≡ slice_get (filter f zs) a = ap (λ (c : Bool). slice_get (if c then z ∷ filter f zs else filter f zs) a) e in
    let two : slice_get (filter f (z ∷ zs)) b ≡ slice_get (filter f zs) b = ap (λ (c : Bool). slice_get (if c then z ∷ filter f zs else filter f zs) b) e in
    let own = rest a b x y less (sym one ∙ first) (sym two ∙ second) in
    (suc own.0, suc own.1, omega (arith, own.2), own.3, own.4)

-- the order stays
pub filter_keeps_order : {X : Type 0} (f : X → Bool) (xs : List X) (a b : ℕ) (x y : X) → a < b → slice_get (filter f xs) a ≡ Some x
    → slice_get (filter f xs) b ≡ Some y → InOrder xs x y
filter_keeps_order f [] a b x y less first second = absurd (none-some x first)
filter_keeps_order f (z ∷ zs) a b x y less first second = filter_keeps_order_step f z zs (f z) refl a b x y less first second (filter_keeps_order f zs)
