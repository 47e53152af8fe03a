-- Threads with equal bytes look the same.
use Rattle.std.proofs.Common.{◌≡◌, ◌+◌, ◌≤◌, ◌<◌, ◌^◌, ℕ, suc, List, [], ◌∷◌, ◌++◌, length, map, flat_map, get_or, refl, sym, ap, ◌∙◌, arith, cond, Option, Some, None, eq-eqb, ne_eqb, inl, inr, ◌⊎◌}
use Rattle.std.proofs.lemmas.Bool.{cases_eq}
use Rattle.std.proofs.lemmas.Nat.{from_le_bytes-to_le_bytes_2, from_le_bytes-to_le_bytes_4}
use Rattle.std.specs.Int.{w16, w32, to_le_bytes, from_le_bytes}
use Rattle.ir_lemmas.proofs.CallerLemmas.{same_head, same_tail}
use Rattle.ir_runs.specs.declared.access.Access.{Access}
use Rattle.ir_runs.specs.declared.access.Access.TheVariants.{Reading, Writing}
use Rattle.ir_thread_bytes.specs.Frozen.{word, held_byte, change, page_changes}

-- lists that begin with as many bytes are equal in two parts
pub equal_append_parts : (a b c d : List ℕ) → length a ≡ length b → a ++ c ≡ b ++ d → (a ≡ b) × (c ≡ d)
equal_append_parts [] [] c d l e = (refl, e)
equal_append_parts [] (y ∷ b) c d l e = absurd (cc l)
equal_append_parts (x ∷ a) [] c d l e = absurd (cc l)
equal_append_parts (x ∷ a) (y ∷ b) c d l e =
    let r = equal_append_parts a b c d (omega (arith, l)) (same_tail x y (a ++ c) (b ++ d) e) in
    ((λ i. same_head x y (a ++ c) (b ++ d) e i ∷ r.0 i), r.1)

pub word_bytes_injective : (x y : ℕ) → x < 2 ^ 32 → y < 2 ^ 32 → word x ≡ word y → x ≡ y
word_bytes_injective x y a b e = sym (from_le_bytes-to_le_bytes_4 x a) ∙ ap (from_le_bytes w32) e ∙ from_le_bytes-to_le_bytes_4 y b

pub flat_word_injective : (xs ys : List ℕ) → length xs ≡ length ys → ((i : ℕ) → get_or xs i 0 < 2 ^ 32) → ((i : ℕ) → get_or ys i 0 < 2 ^ 32)
    → flat_map word xs ≡ flat_map word ys → xs ≡ ys
flat_word_injective [] [] l a b e = refl
flat_word_injective [] (y ∷ ys) l a b e = absurd (cc l)
flat_word_injective (x ∷ xs) [] l a b e = absurd (cc l)
flat_word_injective (x ∷ xs) (y ∷ ys) l a b e =
    let s = equal_append_parts (word x) (word y) (flat_map word xs) (flat_map word ys) refl e in
    let r = flat_word_injective xs ys (omega (arith, l)) (λ i. a (suc i)) (λ i. b (suc i)) s.1 in
    (λ i. word_bytes_injective x y (a 0) (b 0) s.0 i ∷ r i)

pub flat_word_lengths : (xs ys : List ℕ) → length xs ≡ length ys → length (flat_map word xs) ≡ length (flat_map word ys)
flat_word_lengths [] [] l = refl
flat_word_lengths [] (y ∷ ys) l = absurd (cc l)
flat_word_lengths (x ∷ xs) [] l = absurd (cc l)
flat_word_lengths (x ∷ xs) (y ∷ ys) l = ap (λ n. suc (suc (suc (suc n)))) (flat_word_lengths xs ys (omega (arith, l)))

held_byte_injective : (x y : Option Access) → held_byte x ≡ held_byte y → x ≡ y
held_byte_injective None None e = refl
held_byte_injective None (Some Reading) e = absurd (omega (arith, e))
held_byte_injective None (Some Writing) e = absurd (omega (arith, e))
held_byte_injective (Some Reading) None e = absurd (omega (arith, e))
held_byte_injective (Some Reading) (Some Reading) e = refl
held_byte_injective (Some Reading) (Some Writing) e = absurd (omega (arith, e))
held_byte_injective (Some Writing) None e = absurd (omega (arith, e))
held_byte_injective (Some Writing) (Some Reading) e = absurd (omega (arith, e))
held_byte_injective (Some Writing) (Some Writing) e = refl

pub held_bytes_injective : (xs ys : List (Option Access)) → map held_byte xs ≡ map held_byte ys → xs ≡ ys
held_bytes_injective [] [] e = refl
held_bytes_injective [] (y ∷ ys) e = absurd (cc e)
held_bytes_injective (x ∷ xs) [] e = absurd (cc e)
held_bytes_injective (x ∷ xs) (y ∷ ys) e =
    let h = held_byte_injective x y (same_head (held_byte x) (held_byte y) (map held_byte xs) (map held_byte ys) e) in
    let t = held_bytes_injective xs ys (same_tail (held_byte x) (held_byte y) (map held_byte xs) (map held_byte ys) e) in
    (λ i. h i ∷ t i)

place_bytes_injective : (p q : ℕ) → p < 2 ^ 16 → q < 2 ^ 16 → to_le_bytes w16 p ≡ to_le_bytes w16 q → p ≡ q
place_bytes_injective p q a b e = sym (from_le_bytes-to_le_bytes_2 p a) ∙ ap (from_le_bytes w16) e ∙ from_le_bytes-to_le_bytes_2 q b

-- a byte is what it was, and is no change; or it isn't, and is one
pub change_empty_or_written : (place old new : ℕ) → ((new ≡ old) × (change place old new ≡ [])) ⊎ (change place old new ≡ to_le_bytes w16 place ++ new ∷ [])
change_empty_or_written place old new = elim (cases_eq new old) [
  | inl e ↦ inl (e, ap (λ b. cond b [] (to_le_bytes w16 place ++ new ∷ [])) (eq-eqb new old e))
  | inr n ↦ inr (ap (λ b. cond b [] (to_le_bytes w16 place ++ new ∷ [])) (ne_eqb new old n))
]

-- the first change is at no earlier place
first_change_from_place : (place p : ℕ) (start memory : List ℕ) (new : ℕ) (rest : List ℕ) → place + length start ≤ 2 ^ 16 → p < 2 ^ 16
    → page_changes place start memory ≡ to_le_bytes w16 p ++ new ∷ rest → place ≤ p
first_change_from_place place p [] memory new rest room fits e = absurd (cc e)
first_change_from_place place p (x ∷ start) [] new rest room fits e = absurd (cc e)
first_change_from_place place p (x ∷ start) (y ∷ memory) new rest room fits e = elim (change_empty_or_written place x y) [
  | inl same ↦
      let n = first_change_from_place (suc place) p start memory new rest (omega (arith, room)) fits
      (sym (ap (λ l. l ++ page_changes (suc place) start memory) same.1) ∙ e) in
      omega (arith, n)
  | inr other ↦
      let s = equal_append_parts (to_le_bytes w16 place) (to_le_bytes w16 p) (y ∷ page_changes (suc place) start memory) (new ∷ rest) refl
      (sym (ap (λ l. l ++ page_changes (suc place) start memory) other) ∙ e) in
      let q = place_bytes_injective place p (omega (arith, room)) fits s.0 in
      omega (arith, q)
]

no_change_before_place : (place : ℕ) (start memory : List ℕ) (new : ℕ) (rest : List ℕ) → suc place + length start ≤ 2 ^ 16
    → page_changes (suc place) start memory ≡ to_le_bytes w16 place ++ new ∷ rest → ⊥
no_change_before_place place start memory new rest room e =
    let n = first_change_from_place (suc place) place start memory new rest room (omega (arith, room)) e in omega (arith, n)

pub changes_injective : (place : ℕ) (start a b : List ℕ) → length a ≡ length start → length b ≡ length start → place + length start ≤ 2 ^ 16
    → page_changes place start a ≡ page_changes place start b → a ≡ b
changes_injective place [] [] [] la lb room e = refl
changes_injective place [] (x ∷ a) b la lb room e = absurd (cc la)
changes_injective place [] [] (y ∷ b) la lb room e = absurd (cc lb)
changes_injective place (o ∷ start) [] b la lb room e = absurd (cc la)
changes_injective place (o ∷ start) (x ∷ a) [] la lb room e = absurd (cc lb)
changes_injective place (o ∷ start) (x ∷ a) (y ∷ b) la lb room e =
    let more : suc place + length start ≤ 2 ^ 16 = omega (arith, room) in
    elim (change_empty_or_written place o x) [
      | inl p ↦ elim (change_empty_or_written place o y) [
        | inl q ↦
            let r = changes_injective (suc place) start a b (omega (arith, la)) (omega (arith, lb)) more
            (sym (ap (λ l. l ++ page_changes (suc place) start a) p.1) ∙ e ∙ ap (λ l. l ++ page_changes (suc place) start b) q.1) in
            (λ i. (p.0 ∙ sym q.0) i ∷ r i)
        | inr q ↦ absurd (no_change_before_place place start a y (page_changes (suc place) start b) more
            (sym (ap (λ l. l ++ page_changes (suc place) start a) p.1) ∙ e ∙ ap (λ l. l ++ page_changes (suc place) start b) q))
      ]
      | inr p ↦ elim (change_empty_or_written place o y) [
        | inl q ↦ absurd (no_change_before_place place start b x (page_changes (suc place) start a) more
            (sym (ap (λ l. l ++ page_changes (suc place) start b) q.1) ∙ sym e ∙ ap (λ l. l ++ page_changes (suc place) start a) p))
        | inr q ↦
            let s = equal_append_parts (to_le_bytes w16 place) (to_le_bytes w16 place) (x ∷ page_changes (suc place) start a) (y ∷ page_changes (suc place) start b) refl
            (sym (ap (λ l. l ++ page_changes (suc place) start a) p) ∙ e ∙ ap (λ l. l ++ page_changes (suc place) start b) q) in
            let r = changes_injective (suc place) start a b (omega (arith, la)) (omega (arith, lb)) more
            (same_tail x y (page_changes (suc place) start a) (page_changes (suc place) start b) s.1) in
            (λ i. same_head x y (page_changes (suc place) start a) (page_changes (suc place) start b) s.1 i ∷ r i)
      ]
    ]
