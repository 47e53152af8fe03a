-- Bytes that are written one after the other.
use Rattle.std.proofs.Common.{◌≡◌, ◌+◌, ◌*◌, ◌<◌, ◌≤◌, ℕ, suc, true, false, List, [], ◌∷◌, ◌++◌, length, drop, flat_map, get_or, refl, sym, ap, ◌∙◌, arith, cond, Option, Some, None, eq-eqb}
use Rattle.std.specs.Prelude.{is_none, is_some}
use Rattle.std.specs.Int.{w16, to_le_bytes}
use Rattle.std.proofs.lemmas.List.{append_assoc, append-nil, drop_all, drop_more, drop-drop, take-append-drop}
use Rattle.ir_runs.specs.declared.access.Access.{Access}
use Rattle.ir_mach.specs.Pages.{page_of, page_size}
use Rattle.ir_thread.specs.State.{higher_of}
use Rattle.ir_thread_bytes.specs.Frozen.{word, change, page_changes}

-- what is the same is no change
pub change_of_equal_byte : (place old : ℕ) → change place old old ≡ []
change_of_equal_byte place old = ap (λ b. cond b [] (to_le_bytes w16 place ++ old ∷ [])) (eq-eqb old old refl)

pub changes_of_itself : (place : ℕ) (memory : List ℕ) → page_changes place memory memory ≡ []
changes_of_itself place [] = refl
changes_of_itself place (x ∷ memory) = ap (λ l. l ++ page_changes (suc place) memory memory) (change_of_equal_byte place x) ∙ changes_of_itself (suc place) memory

pub changes_append : (place : ℕ) (a b c d : List ℕ) → length a ≡ length c
    → page_changes place (a ++ b) (c ++ d) ≡ page_changes place a c ++ page_changes (place + length a) b d
changes_append place [] b [] d same = ap (λ p. page_changes p b d) (omega arith)
changes_append place [] b (y ∷ c) d same = absurd (cc same)
changes_append place (x ∷ a) b [] d same = absurd (cc same)
changes_append place (x ∷ a) b (y ∷ c) d same =
    ap (λ l. change place x y ++ l) (changes_append (suc place) a b c d (omega (arith, same))
    ∙ ap (λ p. page_changes (suc place) a c ++ page_changes p b d) (omega arith))
    ∙ sym (append_assoc (change place x y) (page_changes (suc place) a c) (page_changes (place + length (x ∷ a)) b d))

-- one byte more
pub changes_byte_step : (first i : ℕ) (old new out more whole : List ℕ) → i < length old → i < length new
    → more ≡ out ++ change (first + i) (get_or old i 0) (get_or new i 0)
    → out ++ page_changes (first + i) (drop i old) (drop i new) ≡ whole
    → more ++ page_changes (first + (i + 1)) (drop (i + 1) old) (drop (i + 1) new) ≡ whole
changes_byte_step first i old new out more whole here there e before =
    let next : first + (i + 1) ≡ suc (first + i) = omega arith in
    let rest : List ℕ = page_changes (suc (first + i)) (drop (i + 1) old) (drop (i + 1) new) in
    ap (λ p. more ++ page_changes p (drop (i + 1) old) (drop (i + 1) new)) next
    ∙ ap (λ l. l ++ rest) e
    ∙ append_assoc out (change (first + i) (get_or old i 0) (get_or new i 0)) rest
    ∙ (λ j. out ++ page_changes (first + i) (sym (drop_more old i 0 here) j) (sym (drop_more new i 0 there) j))
    ∙ before

-- the first object is held or not
pub free_keeps_no_highest : (x : Option Access) (h : Option (ℕ × Access)) → is_some x ≡ false → is_none (higher_of x h) ≡ is_none h
free_keeps_no_highest None None e = refl
free_keeps_no_highest None (Some top) e = refl
free_keeps_no_highest (Some access) h e = absurd (cc e)

pub held_has_highest : (x : Option Access) (h : Option (ℕ × Access)) → is_some x ≡ true → is_none (higher_of x h) ≡ false
held_has_highest None h e = absurd (cc e)
held_has_highest (Some access) None e = refl
held_has_highest (Some access) (Some top) e = refl

pub changes_of_equal : (place : ℕ) (old new : List ℕ) → old ≡ new → page_changes place old new ≡ []
changes_of_equal place old new e = ap (λ l. page_changes place l new) e ∙ changes_of_itself place new

pub append_empty_same : (out more : List ℕ) → more ≡ [] → out ≡ out ++ more
append_empty_same out more e = sym (append-nil out) ∙ ap (λ l. out ++ l) (sym e)

-- a page, and what is behind it
page_append_is_drop : (memory : List ℕ) (i : ℕ) → page_of memory i ++ drop (4096 * (i + 1)) memory ≡ drop (4096 * i) memory
page_append_is_drop memory i =
    ap (λ n. page_of memory i ++ drop n memory) (omega arith)
    ∙ ap (λ l. page_of memory i ++ l) (sym (drop-drop page_size (4096 * i) memory))
    ∙ take-append-drop page_size (drop (4096 * i) memory)

-- one page more
pub changes_page_step : (i : ℕ) (start memory out more old new whole : List ℕ) → old ≡ page_of start i → new ≡ page_of memory i
    → length old ≡ page_size → length new ≡ page_size → more ≡ out ++ page_changes (4096 * i) old new
    → out ++ page_changes (4096 * i) (drop (4096 * i) start) (drop (4096 * i) memory) ≡ whole
    → more ++ page_changes (4096 * (i + 1)) (drop (4096 * (i + 1)) start) (drop (4096 * (i + 1)) memory) ≡ whole
changes_page_step i start memory out more old new whole is is' size size' e before =
    let rest : List ℕ = page_changes (4096 * (i + 1)) (drop (4096 * (i + 1)) start) (drop (4096 * (i + 1)) memory) in
    let next : 4096 * (i + 1) ≡ 4096 * i + length old = omega (arith, size) in
    ap (λ l. l ++ rest) e
    ∙ append_assoc out (page_changes (4096 * i) old new) rest
    ∙ ap (λ p. out ++ (page_changes (4096 * i) old new ++ page_changes p (drop (4096 * (i + 1)) start) (drop (4096 * (i + 1)) memory))) next
    ∙ ap (λ l. out ++ l)
    (sym (changes_append (4096 * i) old (drop (4096 * (i + 1)) start) new (drop (4096 * (i + 1)) memory) (size ∙ sym size')))
    ∙ ap (λ l. out ++ page_changes (4096 * i) l (new ++ drop (4096 * (i + 1)) memory))
    (ap (λ l. l ++ drop (4096 * (i + 1)) start) is ∙ page_append_is_drop start i)
    ∙ ap (λ l. out ++ page_changes (4096 * i) (drop (4096 * i) start) l) (ap (λ l. l ++ drop (4096 * (i + 1)) memory) is' ∙ page_append_is_drop memory i)
    ∙ before

-- one word more
pub words_word_step : (words out more whole : List ℕ) (n value : ℕ) → n < length words → value ≡ get_or words n 0
    → more ≡ out ++ word value → out ++ flat_map word (drop n words) ≡ whole → more ++ flat_map word (drop (n + 1) words) ≡ whole
words_word_step words out more whole n value less is e before =
    let rest : List ℕ = flat_map word (drop (n + 1) words) in
    ap (λ l. l ++ rest) e ∙ append_assoc out (word value) rest ∙ ap (λ v. out ++ (word v ++ rest)) is
    ∙ ap (λ l. out ++ flat_map word l) (sym (drop_more words n 0 less)) ∙ before

-- none is left
pub written_words_whole : (words out whole : List ℕ) (n : ℕ) → length words ≤ n → out ++ flat_map word (drop n words) ≡ whole → out ≡ whole
written_words_whole words out whole n past before =
    sym (append-nil out) ∙ ap (λ l. out ++ flat_map word l) (sym (drop_all n words past)) ∙ before
