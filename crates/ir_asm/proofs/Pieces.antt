-- Texts taken apart.
use Rattle.std.proofs.Common.{◌≡◌, ℕ, Bool, true, false, List, [], ◌∷◌, ◌++◌, refl, sym, ap, ◌∙◌, arith}
use Rattle.std.specs.Prelude.{◌&&◌, not, nat_le, ◌==◌}
use Rattle.std.specs.List.{list_all}
use Rattle.std.proofs.lemmas.Bool.{and_parts}
use Rattle.std.proofs.lemmas.Grind.{common_steps}
use Rattle.ir_asm.specs.Source.{texts_of}
use Rattle.std.proofs.Common.{append_assoc, rules}
use Rattle.ir_lemmas.proofs.CallerLemmas.{conjunction_with_false, false_if_not_is_true, byte_equals_itself}
use Rattle.ir_asm.specs.Text.{split, text_before, trim, trim_end, skip_source_blanks, is_source_blank, is_nil, until, from}

-- a byte of an operand or a name
abbrev pub clean : ℕ → Bool
clean b = (nat_le 33 b && nat_le b 126) && (not (b == 35) && (not (b == 44) && not (b == 58)))

pub clean_differs : (b c : ℕ) → clean b ≡ true → clean c ≡ false → (b == c) ≡ false
clean_differs b c h k = grind (arith, common_steps)

pub clean_byte_is_not_blank : (b : ℕ) → clean b ≡ true → is_source_blank b ≡ false
clean_byte_is_not_blank b h = grind (arith, common_steps)

-- a list without the byte c
abbrev pub lacks : ℕ → List ℕ → Bool
lacks c bs = list_all (λ b. not (b == c)) bs

pub all_pass_in_append : (p : ℕ → Bool) (a b : List ℕ) → list_all p a ≡ true → list_all p b ≡ true → list_all p (a ++ b) ≡ true
all_pass_in_append p [] b h k = k
all_pass_in_append p (x ∷ a) b h k = rw (and_parts (p x) (list_all p a) h).0 (all_pass_in_append p a b (and_parts (p x) (list_all p a) h).1 k)

pub clean_lacks_unclean : (c : ℕ) (a : List ℕ) → clean c ≡ false → list_all clean a ≡ true → lacks c a ≡ true
clean_lacks_unclean c [] k h = refl
clean_lacks_unclean c (x ∷ a) k h =
    let p = and_parts (clean x) (list_all clean a) h in
    rw (clean_differs x c p.0 k) (clean_lacks_unclean c a k p.1)

-- the first byte isn't c, and nor are the others
pub head_and_tail_lack : (c x : ℕ) (a : List ℕ) → lacks c (x ∷ a) ≡ true → ((x == c) ≡ false) × (lacks c a ≡ true)
head_and_tail_lack c x a h = let p = and_parts (not (x == c)) (lacks c a) h in (false_if_not_is_true (x == c) p.0, p.1)

pub split_without_separator : (c : ℕ) (a : List ℕ) → lacks c a ≡ true → split c a ≡ a ∷ []
split_without_separator c [] h = refl
split_without_separator c (x ∷ a) h = rw ((head_and_tail_lack c x a h).0, split_without_separator c a (head_and_tail_lack c x a h).1) refl

pub split_at_separator : (c : ℕ) (a b : List ℕ) → lacks c a ≡ true → split c (a ++ c ∷ b) ≡ a ∷ split c b
split_at_separator c [] b h = rw (byte_equals_itself c) refl
split_at_separator c (x ∷ a) b h = rw ((head_and_tail_lack c x a h).0, split_at_separator c a b (head_and_tail_lack c x a h).1) refl

pub before_no_separator : (c : ℕ) (a : List ℕ) → lacks c a ≡ true → text_before c a ≡ a
before_no_separator c [] h = refl
before_no_separator c (x ∷ a) h = rw ((head_and_tail_lack c x a h).0) (ap (λ (l : List ℕ). x ∷ l) (before_no_separator c a (head_and_tail_lack c x a h).1))

pub before_first_separator : (c : ℕ) (a b : List ℕ) → lacks c a ≡ true → text_before c (a ++ c ∷ b) ≡ a
before_first_separator c [] b h = rw (byte_equals_itself c) refl
before_first_separator c (x ∷ a) b h = rw ((head_and_tail_lack c x a h).0) (ap (λ (l : List ℕ). x ∷ l) (before_first_separator c a b (head_and_tail_lack c x a h).1))

-- the name ends at the first blank
pub until_blank_is_part : (a b : List ℕ) → list_all clean a ≡ true → until is_source_blank (a ++ 32 ∷ b) ≡ a
until_blank_is_part [] b h = refl
until_blank_is_part (x ∷ a) b h =
    let p = and_parts (clean x) (list_all clean a) h in
    rw (clean_byte_is_not_blank x p.0) (ap (λ (l : List ℕ). x ∷ l) (until_blank_is_part a b p.1))

pub from_blank_is_rest : (a b : List ℕ) → list_all clean a ≡ true → from is_source_blank (a ++ 32 ∷ b) ≡ 32 ∷ b
from_blank_is_rest [] b h = refl
from_blank_is_rest (x ∷ a) b h =
    let p = and_parts (clean x) (list_all clean a) h in
    rw (clean_byte_is_not_blank x p.0) (from_blank_is_rest a b p.1)

pub trim_end_of_clean_text : (a : List ℕ) → list_all clean a ≡ true → trim_end a ≡ a
trim_end_of_clean_text [] h = refl
trim_end_of_clean_text (x ∷ a) h =
    let p = and_parts (clean x) (list_all clean a) h in
    rw (clean_byte_is_not_blank x p.0) (ap (λ (l : List ℕ). x ∷ l) (trim_end_of_clean_text a p.1))

pub skip_blanks_clean : (a : List ℕ) → list_all clean a ≡ true → skip_source_blanks a ≡ a
skip_blanks_clean [] h = refl
skip_blanks_clean (x ∷ a) h = rw (clean_byte_is_not_blank x (and_parts (clean x) (list_all clean a) h).0) refl

pub trim_of_clean_text : (a : List ℕ) → list_all clean a ≡ true → trim a ≡ a
trim_of_clean_text a h = rw (skip_blanks_clean a h) (trim_end_of_clean_text a h)

pub append_is_nonempty : (x y : List ℕ) → is_nil y ≡ false → is_nil (x ++ y) ≡ false
append_is_nonempty [] y h = h
append_is_nonempty (b ∷ x) y h = refl

-- what ends in a clean piece has no blanks at its end
pub trim_end_clean_end : (x y : List ℕ) → is_nil y ≡ false → list_all clean y ≡ true → trim_end (x ++ y) ≡ x ++ y
trim_end_clean_end [] y n h = trim_end_of_clean_text y h
trim_end_clean_end (b ∷ x) y n h = rw (trim_end_clean_end x y n h, append_is_nonempty x y n, conjunction_with_false (is_source_blank b)) refl

-- what begins with a clean byte has no blanks at its start
pub skip_blanks_clean_start : (x y : List ℕ) → is_nil x ≡ false → list_all clean x ≡ true → skip_source_blanks (x ++ y) ≡ x ++ y
skip_blanks_clean_start [] y n h = absurd (search rules)
skip_blanks_clean_start (b ∷ x) y n h = rw (clean_byte_is_not_blank b (and_parts (clean b) (list_all clean x) h).0) refl

-- ---- the operands of name a, b, c

-- a name or an operand as it is printed
pub record IsPiece (a : List ℕ) : Type 0 where
  pub some : is_nil a ≡ false
  pub all : list_all clean a ≡ true

pub texts_of_two_pieces : (a b : List ℕ) → IsPiece a → IsPiece b → texts_of (trim (32 ∷ a ++ 44 ∷ 32 ∷ b)) ≡ a ∷ b ∷ []
texts_of_two_pieces a b p q =
    rw (skip_blanks_clean_start a (44 ∷ 32 ∷ b) p.some p.all)
    (rw (ap trim_end (sym (append_assoc a (44 ∷ 32 ∷ []) b)) ∙ trim_end_clean_end (a ++ 44 ∷ 32 ∷ []) b q.some q.all
    ∙ append_assoc a (44 ∷ 32 ∷ []) b)
    (rw (
      append_is_nonempty a (44 ∷ 32 ∷ b) refl,
      split_at_separator 44 a (32 ∷ b) (clean_lacks_unclean 44 a refl p.all),
      split_without_separator 44 (32 ∷ b)
          (clean_lacks_unclean 44 b refl q.all),
    )
    (rw (trim_of_clean_text a p.all, trim_of_clean_text b q.all) refl)))
