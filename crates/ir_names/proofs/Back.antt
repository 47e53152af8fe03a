-- The plain answer is had back of the answer with names.
use Rattle.std.proofs.Common.{◌≡◌, ◌-◌, ◌≤◌, ℕ, zero, suc, Bool, true, false, not, ◌&&◌, cond, List, [], ◌∷◌, ◌++◌, length, take, refl, sym, ap, ◌∙◌, arith, append_assoc, codes}
use Rattle.std.specs.Prelude.{Option, Some, None, option_and_then}
use Rattle.ir_lemmas.proofs.CallerLemmas.{conjunction_with_false}
use Rattle.ir_names.specs.Naming.{Reached, after_bytes, ends_word, text_with_names, byte_with_name, after_byte, tag, tag_text, thing_at}
use Rattle.ir_names.specs.Things.{NameTable, name_among}
use Rattle.ir_names.specs.Taken.{has_no_bytes, bytes_before_name, unnamed}

-- ---- a name is passed over

-- a name that is put in begins with a blank, or is nothing
blank_first : (name : Option (List ℕ)) → (has_no_bytes (tag_text name) ≡ false) → (rest : List ℕ) × (tag_text name ≡ 32 ∷ rest)
blank_first None e = absurd (cc e)
blank_first (Some name) e = (60 ∷ (name ++ codes ">"), refl)

passed_over : (names : NameTable) (r : Reached) (b : ℕ) (skipped rest : List ℕ)
    → unnamed names r (Some (length skipped)) (skipped ++ b ∷ rest) ≡ b ∷ unnamed names (after_byte r b) None rest
unfolding unnamed
passed_over names r b [] rest = refl
passed_over names r b (c ∷ skipped) rest = passed_over names r b skipped rest

-- the first bytes of a name say nothing
begun_over : (names : NameTable) (r : Reached) (skipped : List ℕ) (n : ℕ) → unnamed names r (Some (length skipped)) (take n skipped) ≡ []
unfolding unnamed
begun_over names r skipped zero = refl
begun_over names r [] (suc n) = refl
begun_over names r (c ∷ skipped) (suc n) = begun_over names r skipped n

one_less : (n : ℕ) → suc n - 1 ≡ n
one_less n = omega arith

by_length : (names : NameTable) (r : Reached) (rest bytes : List ℕ) → tag names r ≡ 32 ∷ rest
    → unnamed names r None (32 ∷ bytes) ≡ unnamed names r (Some (suc (length rest) - 1)) bytes
unfolding unnamed
by_length names r rest bytes e =
    ap (λ (text : List ℕ). cond (not (has_no_bytes text)) (unnamed names r (Some (length text - 1)) bytes) (32 ∷ unnamed names (after_byte r 32) None bytes)) e

-- what is read of a blank where a name is put in
at_name : (names : NameTable) (r : Reached) (rest bytes : List ℕ) → tag names r ≡ 32 ∷ rest
    → unnamed names r None (32 ∷ bytes) ≡ unnamed names r (Some (length rest)) bytes
at_name names r rest bytes e = by_length names r rest bytes e ∙ ap (λ (n : ℕ). unnamed names r (Some n) bytes) (one_less (length rest))

-- what there is of a text that is empty
nil_of_is_nil : (text : List ℕ) → has_no_bytes text ≡ true → text ≡ []
nil_of_is_nil [] e = refl
nil_of_is_nil (b ∷ text) e = absurd (cc e)

nothing_of_nothing : (names : NameTable) (r : Reached) (n : ℕ) → unnamed names r None (take n []) ≡ []
unfolding unnamed
nothing_of_nothing names r zero = refl
nothing_of_nothing names r (suc n) = refl

begun_name : (names : NameTable) (r : Reached) (rest : List ℕ) (n : ℕ) → tag names r ≡ 32 ∷ rest → unnamed names r None (take n (32 ∷ rest)) ≡ []
unfolding unnamed
begun_name names r rest zero e = refl
begun_name names r rest (suc n) e = at_name names r rest (take n rest) e ∙ begun_over names r rest n

begun_by_test : (names : NameTable) (r : Reached) (n : ℕ) (b : Bool) → has_no_bytes (tag names r) ≡ b → unnamed names r None (take n (tag names r)) ≡ []
begun_by_test names r n true e = ap (λ (text : List ℕ). unnamed names r None (take n text)) (nil_of_is_nil (tag names r) e) ∙ nothing_of_nothing names r n
begun_by_test names r n false e =
    let first = blank_first (option_and_then (name_among names) (thing_at r.place r.object r.word)) e in
    ap (λ (text : List ℕ). unnamed names r None (take n text)) first.1 ∙ begun_name names r first.0 n first.1

-- the first bytes of a name that is put in say nothing
pub unnamed_of_begun_name : (names : NameTable) (r : Reached) (n : ℕ) → unnamed names r None (take n (tag names r)) ≡ []
unnamed_of_begun_name names r n = begun_by_test names r n (has_no_bytes (tag names r)) refl

-- ---- what stands for a byte gives the byte

-- a byte before which no name is put in
plain_byte : (names : NameTable) (r : Reached) (b : ℕ) (rest : List ℕ) → (ends_word b && not (has_no_bytes (tag names r))) ≡ false
    → unnamed names r None (b ∷ rest) ≡ b ∷ unnamed names (after_byte r b) None rest
unfolding unnamed
plain_byte names r b rest e =
    ap (λ (is : Bool). cond is (unnamed names r (Some (length (tag names r) - 1)) rest) (b ∷ unnamed names (after_byte r b) None rest)) e

shown_by_tests : (names : NameTable) (r : Reached) (b : ℕ) (rest : List ℕ) (ends none : Bool) → ends_word b ≡ ends → has_no_bytes (tag names r) ≡ none
    → unnamed names r None (cond ends (tag names r ++ b ∷ []) (b ∷ []) ++ rest) ≡ b ∷ unnamed names (after_byte r b) None rest
shown_by_tests names r b rest false none e f = plain_byte names r b rest (ap (λ (is : Bool). is && not (has_no_bytes (tag names r))) e)
shown_by_tests names r b rest true true e f =
    ap (λ (text : List ℕ). unnamed names r None ((text ++ b ∷ []) ++ rest)) (nil_of_is_nil (tag names r) f)
    ∙ plain_byte names r b rest (ap (λ (none : Bool). ends_word b && not none) f ∙ conjunction_with_false (ends_word b))
shown_by_tests names r b rest true false e f =
    let first = blank_first (option_and_then (name_among names) (thing_at r.place r.object r.word)) f in
    ap (λ (text : List ℕ). unnamed names r None ((text ++ b ∷ []) ++ rest)) first.1
    ∙ at_name names r first.0 ((first.0 ++ b ∷ []) ++ rest) first.1
    ∙ ap (λ (text : List ℕ). unnamed names r (Some (length first.0)) text) (append_assoc first.0 (b ∷ []) rest)
    ∙ passed_over names r b first.0 rest

shown_gives_byte : (names : NameTable) (r : Reached) (b : ℕ) (rest : List ℕ)
    → unnamed names r None (byte_with_name names r b ++ rest) ≡ b ∷ unnamed names (after_byte r b) None rest
shown_gives_byte names r b rest = shown_by_tests names r b rest (ends_word b) (has_no_bytes (tag names r)) refl refl

-- ---- an answer with names gives the plain answer

pub unnamed_of_named : (names : NameTable) (r : Reached) (bytes rest : List ℕ)
    → unnamed names r None (text_with_names names r bytes ++ rest) ≡ bytes ++ unnamed names (after_bytes r bytes) None rest
unnamed_of_named names r [] rest = refl
unnamed_of_named names r (b ∷ bytes) rest =
    ap (λ (text : List ℕ). unnamed names r None text) (append_assoc (byte_with_name names r b) (text_with_names names (after_byte r b) bytes) rest)
    ∙ shown_gives_byte names r b (text_with_names names (after_byte r b) bytes ++ rest)
    ∙ ap (λ (more : List ℕ). b ∷ more) (unnamed_of_named names (after_byte r b) bytes rest)

-- an answer with names, in two parts
pub named_append : (names : NameTable) (r : Reached) (bytes more : List ℕ)
    → text_with_names names r (bytes ++ more) ≡ text_with_names names r bytes ++ text_with_names names (after_bytes r bytes) more
named_append names r [] more = refl
named_append names r (b ∷ bytes) more =
    ap (λ (rest : List ℕ). byte_with_name names r b ++ rest) (named_append names (after_byte r b) bytes more)
    ∙ sym (append_assoc (byte_with_name names r b) (text_with_names names (after_byte r b) bytes) (text_with_names names (after_bytes (after_byte r b) bytes) more))

-- ---- what passes as it is

shown_if_none : (names : NameTable) (r : Reached) (b : ℕ) (ends none : Bool) → ends_word b ≡ ends → has_no_bytes (tag names r) ≡ none
    → (ends && not none) ≡ false → cond ends (tag names r ++ b ∷ []) (b ∷ []) ≡ b ∷ []
shown_if_none names r b false none e f g = refl
shown_if_none names r b true true e f g = ap (λ (text : List ℕ). text ++ b ∷ []) (nil_of_is_nil (tag names r) f)
shown_if_none names r b true false e f g = absurd (cc g)

passes_if : (names : NameTable) (r : Reached) (b : ℕ) (bytes : List ℕ) (n : ℕ) (test : Bool) → (ends_word b && not (has_no_bytes (tag names r))) ≡ test
    → suc n ≤ cond test 0 (suc (bytes_before_name names (after_byte r b) bytes)) → (test ≡ false) × (n ≤ bytes_before_name names (after_byte r b) bytes)
passes_if names r b bytes n true e l = absurd (omega (arith, l))
passes_if names r b bytes n false e l = (refl, omega (arith, l))

-- the bytes before the first name stay as they are
pub named_of_passing : (names : NameTable) (r : Reached) (bytes : List ℕ) (n : ℕ) → n ≤ bytes_before_name names r bytes → text_with_names names r (take n bytes) ≡ take n bytes
unfolding bytes_before_name
named_of_passing names r bytes zero l = refl
named_of_passing names r [] (suc n) l = refl
named_of_passing names r (b ∷ bytes) (suc n) l =
    let p = passes_if names r b bytes n (ends_word b && not (has_no_bytes (tag names r))) refl l in
    ap (λ (first : List ℕ). first ++ text_with_names names (after_byte r b) (take n bytes)) (shown_if_none names r b (ends_word b) (has_no_bytes (tag names r)) refl refl p.0)
    ∙ ap (λ (rest : List ℕ). b ∷ rest) (named_of_passing names (after_byte r b) bytes n p.1)

passes_by_test : (names : NameTable) (r : Reached) (b : ℕ) (bytes : List ℕ) (test : Bool) → bytes_before_name names (after_byte r b) bytes ≤ length bytes
    → cond test 0 (suc (bytes_before_name names (after_byte r b) bytes)) ≤ suc (length bytes)
passes_by_test names r b bytes true l = omega (arith)
passes_by_test names r b bytes false l = omega (arith, l)

-- they are no more than all
pub passes_within : (names : NameTable) (r : Reached) (bytes : List ℕ) → bytes_before_name names r bytes ≤ length bytes
unfolding bytes_before_name
passes_within names r [] = omega (arith)
passes_within names r (b ∷ bytes) = passes_by_test names r b bytes (ends_word b && not (has_no_bytes (tag names r))) (passes_within names (after_byte r b) bytes)

tests_if_none : (names : NameTable) (r : Reached) (b : ℕ) (bytes : List ℕ) (ends none : Bool) → ends_word b ≡ ends → has_no_bytes (tag names r) ≡ none
    → cond (ends && not none) 0 (suc (bytes_before_name names (after_byte r b) bytes)) ≡ 0 → (ends_word b ≡ true) × (has_no_bytes (tag names r) ≡ false)
tests_if_none names r b bytes true false e f g = (e, f)
tests_if_none names r b bytes true true e f g = absurd (cc g)
tests_if_none names r b bytes false none e f g = absurd (cc g)

-- where none passes, the first ends a word that has a name
pub name_if_none_passes : (names : NameTable) (r : Reached) (b : ℕ) (bytes : List ℕ) → bytes_before_name names r (b ∷ bytes) ≡ 0
    → (ends_word b ≡ true) × (has_no_bytes (tag names r) ≡ false)
unfolding bytes_before_name
name_if_none_passes names r b bytes e = tests_if_none names r b bytes (ends_word b) (has_no_bytes (tag names r)) refl refl e
