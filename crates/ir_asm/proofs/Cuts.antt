-- Where texts are cut.
use Rattle.std.proofs.Common.{◌≡◌, ◌-◌, ◌<◌, ◌≤◌, ℕ, zero, suc, Bool, true, false, cond, List, [], ◌∷◌, length, take, drop, get_or, refl, sym, ap, ◌∙◌, arith}
use Rattle.std.specs.Prelude.{◌==◌, ◌&&◌}
use Rattle.std.specs.Prelude.{None}
use Rattle.std.specs.List.{onto_first}
use Rattle.ir_asm.specs.Operands.{operand_address, address_parts, in_parentheses}
use Rattle.ir_asm.specs.Text.{until, from, split, trim_end, is_source_blank}

-- a list is cut at the first element that passes
pub take_drop_first_match : (p : ℕ → Bool) (xs : List ℕ) (n : ℕ) → n ≤ length xs → ((k : ℕ) → k < n → p (get_or xs k 0) ≡ false)
    → (n < length xs → p (get_or xs n 0) ≡ true) → (take n xs ≡ until p xs) × (drop n xs ≡ from p xs)
take_drop_first_match p [] zero h none found = (refl, refl)
take_drop_first_match p [] (suc n) h none found = absurd (omega (arith, h))
take_drop_first_match p (x ∷ xs) zero h none found = rw (found (omega arith)) (refl, refl)
take_drop_first_match p (x ∷ xs) (suc n) h none found =
    let rest = take_drop_first_match p xs n (omega (arith, h)) (λ k l. none (suc k) (omega (arith, l))) (λ l. found (omega (arith, l))) in
    rw (none zero (omega arith)) (ap (λ (l : List ℕ). x ∷ l) rest.0, rest.1)

pub take_first_match : (p : ℕ → Bool) (xs : List ℕ) (n : ℕ) → n ≤ length xs → ((k : ℕ) → k < n → p (get_or xs k 0) ≡ false)
    → (n < length xs → p (get_or xs n 0) ≡ true) → take n xs ≡ until p xs
take_first_match p xs n h none found = (take_drop_first_match p xs n h none found).0

pub drop_first_match : (p : ℕ → Bool) (xs : List ℕ) (n : ℕ) → n ≤ length xs → ((k : ℕ) → k < n → p (get_or xs k 0) ≡ false)
    → (n < length xs → p (get_or xs n 0) ≡ true) → drop n xs ≡ from p xs
drop_first_match p xs n h none found = (take_drop_first_match p xs n h none found).1

-- the first part, by what comes before the first byte c and from it on
abbrev pub split_rest : ℕ → List ℕ → List ℕ → List (List ℕ)
split_rest c part [] = part ∷ []
split_rest c part (b ∷ rest) = part ∷ split c rest

onto_first_split_rest : (c x : ℕ) (part rest : List ℕ) → onto_first x (split_rest c part rest) ≡ split_rest c (x ∷ part) rest
onto_first_split_rest c x part [] = refl
onto_first_split_rest c x part (b ∷ rest) = refl

split_rest_step : (c x : ℕ) (xs : List ℕ) (t : Bool) → split c xs ≡ split_rest c (until (λ b. b == c) xs) (from (λ b. b == c) xs)
    → cond t ([] ∷ split c xs) (onto_first x (split c xs)) ≡ split_rest c (cond t [] (x ∷ until (λ b. b == c) xs))
    (cond t (x ∷ xs) (from (λ b. b == c) xs))
split_rest_step c x xs true e = refl
split_rest_step c x xs false e = ap (onto_first x) e ∙ onto_first_split_rest c x (until (λ b. b == c) xs) (from (λ b. b == c) xs)

pub split_is_split_rest : (c : ℕ) (xs : List ℕ) → split c xs ≡ split_rest c (until (λ b. b == c) xs) (from (λ b. b == c) xs)
split_is_split_rest c [] = refl
split_is_split_rest c (x ∷ xs) = split_rest_step c x xs (x == c) (split_is_split_rest c xs)

take_of_whole_length : (xs : List ℕ) → take (length xs) xs ≡ xs
take_of_whole_length [] = refl
take_of_whole_length (x ∷ xs) = ap (λ (l : List ℕ). x ∷ l) (take_of_whole_length xs)

pub split_at_first_match : (c : ℕ) (xs part rest : List ℕ) → part ≡ until (λ b. b == c) xs → rest ≡ from (λ b. b == c) xs → 1 ≤ length rest
    → split c xs ≡ part ∷ split c (take (length rest - 1) (drop 1 rest))
split_at_first_match c xs part [] e f h = absurd (omega (arith, h))
split_at_first_match c xs part (b ∷ rest) e f h =
    let n : length (b ∷ rest) - 1 ≡ length rest = omega arith in
    rw (n, take_of_whole_length rest) (split_is_split_rest c xs ∙ ap (λ (l : List ℕ). split_rest c (until (λ b. b == c) xs) l) (sym f)
    ∙ ap (λ (l : List ℕ). l ∷ split c rest) (sym e))

-- a blank at the end goes
pub trim_end_last_blank : (xs : List ℕ) → 1 ≤ length xs → is_source_blank (get_or xs (length xs - 1) 0) ≡ true
    → trim_end (take (length xs - 1) xs) ≡ trim_end xs
trim_end_last_blank [] h k = absurd (omega (arith, h))
trim_end_last_blank (x ∷ []) h k = rw k refl
trim_end_last_blank (x ∷ y ∷ ys) h k =
    let n : length (x ∷ y ∷ ys) - 1 ≡ suc (length (y ∷ ys) - 1) = omega arith in
    let k2 : is_source_blank (get_or (y ∷ ys) (length (y ∷ ys) - 1) 0) ≡ true = rw n at k in
    let e : trim_end (take (length (y ∷ ys) - 1) (y ∷ ys)) ≡ trim_end (y ∷ ys) = trim_end_last_blank (y ∷ ys) (omega arith) k2 in
    rw n (rw e refl)

-- what ends without a blank stays
pub trim_end_unblank_end : (xs : List ℕ) → 1 ≤ length xs → is_source_blank (get_or xs (length xs - 1) 0) ≡ false → xs ≡ trim_end xs
trim_end_unblank_end [] h k = absurd (omega (arith, h))
trim_end_unblank_end (x ∷ []) h k = rw k refl
trim_end_unblank_end (x ∷ y ∷ ys) h k =
    let n : length (x ∷ y ∷ ys) - 1 ≡ suc (length (y ∷ ys) - 1) = omega arith in
    let k2 : is_source_blank (get_or (y ∷ ys) (length (y ∷ ys) - 1) 0) ≡ false = rw n at k in
    let e : trim_end (y ∷ ys) ≡ y ∷ ys = sym (trim_end_unblank_end (y ∷ ys) (omega arith) k2) in
    rw e (kept x y ys)
  where
    kept : (x y : ℕ) (ys : List ℕ) → (x ∷ y ∷ ys) ≡ cond (is_source_blank x && false) [] (x ∷ y ∷ ys)
    kept x y ys = go (is_source_blank x)
      where
        go : (t : Bool) → (x ∷ y ∷ ys) ≡ cond (t && false) [] (x ∷ y ∷ ys)
        go true = refl
        go false = refl

-- a text has a first part
pub split_begins_with_until : (c : ℕ) (xs : List ℕ) → split c xs ≡ until (λ b. b == c) xs ∷ drop 1 (split c xs)
split_begins_with_until c xs = first_by (from (λ b. b == c) xs) (split_is_split_rest c xs)
  where
    first_by : (rest : List ℕ) → split c xs ≡ split_rest c (until (λ b. b == c) xs) rest → split c xs ≡ until (λ b. b == c) xs
        ∷ drop 1 (split c xs)
    first_by [] e = rw e refl
    first_by (b ∷ rest) e = rw e refl

pub split_begins_with_part : (c : ℕ) (xs part : List ℕ) → part ≡ until (λ b. b == c) xs → split c xs ≡ part ∷ drop 1 (split c xs)
split_begins_with_part c xs part e = split_begins_with_until c xs ∙ ap (λ (l : List ℕ). l ∷ drop 1 (split c xs)) (sym e)

-- more parts than one
pub split_has_more_parts : (c : ℕ) (xs a rest : List ℕ) → split c xs ≡ a ∷ split c rest → (p : List ℕ) → split c xs ≡ p ∷ [] → ⊥
split_has_more_parts c xs a rest e p f = two_not_one a p (until (λ b. b == c) rest) (drop 1 (split c rest))
    (ap (λ (l : List (List ℕ)). a ∷ l) (sym (split_begins_with_until c rest)) ∙ sym e ∙ f)
  where
    two_not_one : (a p b : List ℕ) (l : List (List ℕ)) → a ∷ b ∷ l ≡ p ∷ [] → ⊥
    two_not_one a p b l h = cc

-- two opening parentheses
pub opened_twice_no_address : (text a rest : List ℕ) → split 40 text ≡ a ∷ split 40 rest → ((p : List ℕ) → split 40 rest ≡ p ∷ [] → ⊥)
    → operand_address text ≡ None
opened_twice_no_address text a rest e f = rw e (by_parts (split 40 rest) f)
  where
    by_parts : (parts : List (List ℕ)) → ((p : List ℕ) → parts ≡ p ∷ [] → ⊥) → address_parts (a ∷ parts) ≡ None
    by_parts [] g = refl
    by_parts (p ∷ []) g = absurd (g p refl)
    by_parts (p ∷ q ∷ parts) g = refl

-- a closing parenthesis before the opening one
pub closed_early_no_address : (text a rest inside : List ℕ) → split 40 text ≡ a ∷ split 40 rest → split 40 rest ≡ inside ∷ []
    → ((p : List ℕ) → split 41 a ≡ p ∷ [] → ⊥) → operand_address text ≡ None
closed_early_no_address text a rest inside e f g = rw (e, f) (by_parts (split 41 a) (split 41 inside) g)
  where
    by_parts : (parts others : List (List ℕ)) → ((p : List ℕ) → parts ≡ p ∷ [] → ⊥) → in_parentheses parts others ≡ None
    by_parts [] others h = refl
    by_parts (p ∷ []) others h = absurd (h p refl)
    by_parts (p ∷ q ∷ parts) others h = refl

-- something after the closing parenthesis
pub no_parentheses_in_text : (text q t : List ℕ) → split 41 text ≡ q ∷ split 41 t → 1 ≤ length t → (imm : List ℕ)
    → in_parentheses (imm ∷ []) (split 41 text) ≡ None
no_parentheses_in_text text q [] e h imm = absurd (omega (arith, h))
no_parentheses_in_text text q (x ∷ t) e h imm = rw (e, split_is_split_rest 41 (x ∷ t)) (by_test (x == 41) (from (λ b. b == 41) t))
  where
    by_test : (k : Bool) (rest : List ℕ) → in_parentheses (imm ∷ [])
        (q ∷ split_rest 41 (cond k [] (x ∷ until (λ b. b == 41) t)) (cond k (x ∷ t) rest)) ≡ None
    by_test true rest = rw (split_begins_with_until 41 t) refl
    by_test false [] = refl
    by_test false (b ∷ rest) = refl
