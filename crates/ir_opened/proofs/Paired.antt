-- Lists whose elements belong to those of another.
use Rattle.std.proofs.Common.{◌≡◌, ℕ, zero, suc, ◌+◌, ◌<◌, ◌≤◌, inl, inr, Some, List, [], ◌∷◌, ◌++◌, get_or, length, refl, sym, ap, ◌∙◌, subst, arith}
use Rattle.std.specs.Prelude.{slice_get}
use Rattle.std.proofs.lemmas.Option.{same_Some, none-some}
use Rattle.ir_lemmas.proofs.CallerLemmas.{slice_get_append_cases}
use Rattle.ir_opened.specs.Paired.{ArePaired}

-- an element of a list is at its place
pub slice_get_as_get_or : {X : Type 0} (xs : List X) (n : ℕ) (d : X) → n < length xs → slice_get xs n ≡ Some (get_or xs n d)
slice_get_as_get_or [] n d l = absurd (omega arith)
slice_get_as_get_or (x ∷ xs) zero d l = refl
slice_get_as_get_or (x ∷ xs) (suc n) d l = slice_get_as_get_or xs n d (omega arith)

-- the first n elements have theirs
pub record ArePairedTo {X Y : Type 0} (P : X → Y → Type 0) (xs : List X) (n : ℕ) (ys : List Y) : Type 0 where
  pub size : length ys ≡ n
  pub each : (k : ℕ) (x : X) (y : Y) → slice_get xs k ≡ Some x → slice_get ys k ≡ Some y → P x y

pub paired_to_no_element : {X Y : Type 0} (P : X → Y → Type 0) (xs : List X) → ArePairedTo P xs 0 []
paired_to_no_element P xs = record { size = refl; each = λ k x y a b. absurd (none-some y b) }

pub paired_to_next_element : {X Y : Type 0} (P : X → Y → Type 0) (xs : List X) (n : ℕ) (ys : List Y) (x : X) (y : Y) → ArePairedTo P xs n ys
    → slice_get xs n ≡ Some x → P x y → ArePairedTo P xs (n + 1) (ys ++ y ∷ [])
paired_to_next_element P xs n ys x y h at is = record {
  size = long ys y ∙ ap (λ k. k + 1) h.size;
  each = λ k z w a b. elim (slice_get_append_cases ys (y ∷ []) k w b) [
    | inl before ↦ h.each k z w a before
    | inr here ↦ last k z w a here.0 here.1 here.2
  ];
}
  where
    long : {Y : Type 0} (ys : List Y) (y : Y) → length (ys ++ y ∷ []) ≡ length ys + 1
    long [] y = refl
    long (z ∷ zs) y =
        let rest = long zs y in
        let same : suc (length (zs ++ y ∷ [])) ≡ suc (length zs) + 1 = omega (arith, rest) in
        same

    last : (k : ℕ) (z : _) (w : _) → slice_get xs k ≡ Some z → (m : ℕ) → k ≡ length ys + m → slice_get (y ∷ []) m ≡ Some w → P z w
    last k z w a zero e b =
        let same : k ≡ n = let s = h.size in omega (arith, e, s) in
        subst (λ q. P z q) (same_Some y w b)
        (subst (λ q. P q y) (same_Some x z (sym at ∙ subst (λ q. slice_get xs q ≡ Some z) same a)) is)
    last k z w a (suc m) e b = absurd (none-some w b)

pub paired_if_all_paired_to : {X Y : Type 0} (P : X → Y → Type 0) (xs : List X) (n : ℕ) (ys : List Y) → ArePairedTo P xs n ys → length xs ≤ n → n ≤ length xs
    → ArePaired P xs ys
paired_if_all_paired_to P xs n ys h a b = record { size = let s = h.size in omega (arith, s, a, b); each = h.each }
