-- What a writer with names took, as it grows.
use Rattle.std.proofs.Common.{◌≡◌, ◌-◌, ℕ, zero, suc, Bool, true, false, ◌&&◌, cond, List, [], ◌∷◌, ◌++◌, length, take}
use Rattle.std.proofs.Common.{refl, sym, ap, ◌∙◌, subst, arith, append_assoc, append-nil, length-append}
use Rattle.std.specs.Prelude.{Option, Some, None, option_map}
use Rattle.std.specs.Io.KnownBytes.{Appends, Keeps}
use Rattle.std.proofs.lemmas.Slice.Eq.{bytes_eq-Decides}
use Rattle.ir_lemmas.proofs.CallerLemmas.{conjuncts_are_true}
use Rattle.ir_names.specs.Naming.{Reached, after_bytes, after_word, answer_start, ends_word, most_word_bytes, text_with_names, after_byte, tag}
use Rattle.ir_names.specs.Taken.{begun_numbers, bool_number, reached_alike, known_plain, option_number, place_number, plain_if, plain_of, plain_taken, reached_numbers, unnamed, with_begun_name}
use Rattle.ir_names.specs.Things.{NameTable}
use Rattle.ir_names.specs.declared.place.Place.{Place}
use Rattle.ir_names.specs.declared.place.Place.TheVariants as place
use Rattle.ir_names.proofs.Back.{named_append, unnamed_of_begun_name, unnamed_of_named}

-- ---- the numbers say all

abbrev place_by : ℕ → Place
place_by zero = place.Begin
place_by (suc zero) = place.Thread
place_by (suc (suc zero)) = place.Object
place_by (suc (suc (suc zero))) = place.Entry
place_by (suc (suc (suc (suc zero)))) = place.Held
place_by (suc (suc (suc (suc (suc zero))))) = place.Word
place_by (suc (suc (suc (suc (suc (suc zero)))))) = place.Pc
place_by (suc (suc (suc (suc (suc (suc (suc zero))))))) = place.Other
place_by (suc (suc (suc (suc (suc (suc (suc (suc index)))))))) = place.Words index

place_by_number : (p : Place) → place_by (place_number p) ≡ p
place_by_number place.Begin = refl
place_by_number place.Thread = refl
place_by_number place.Object = refl
place_by_number place.Entry = refl
place_by_number place.Held = refl
place_by_number place.Word = refl
place_by_number place.Pc = refl
place_by_number place.Other = refl
place_by_number (place.Words index) = refl

abbrev option_by : ℕ → Option ℕ
option_by zero = None
option_by (suc n) = Some n

option_by_number : (o : Option ℕ) → option_by (option_number o) ≡ o
option_by_number None = refl
option_by_number (Some n) = refl

abbrev pub bool_by : ℕ → Bool
bool_by zero = false
bool_by (suc n) = true

pub bool_by_number : (b : Bool) → bool_by (bool_number b) ≡ b
bool_by_number false = refl
bool_by_number true = refl

abbrev reached_by : List ℕ → Reached
reached_by (p ∷ o ∷ b ∷ word) = record { word = word; place = place_by p; object = option_by o; lists = bool_by b }
reached_by numbers = answer_start false

reached_by_numbers : (r : Reached) → reached_by (reached_numbers r) ≡ r
reached_by_numbers r = λ i.
    record { word = r.word; place = place_by_number r.place i; object = option_by_number r.object i; lists = bool_by_number r.lists i }

is_same_reached : (a b : Reached) → reached_alike a b ≡ true → a ≡ b
is_same_reached a b e =
    sym (reached_by_numbers a) ∙ ap reached_by ((bytes_eq-Decides (reached_numbers a) (reached_numbers b)).0 e) ∙ reached_by_numbers b

same_is_reached : (r : Reached) → reached_alike r r ≡ true
same_is_reached r = (bytes_eq-Decides (reached_numbers r) (reached_numbers r)).1 refl

-- ---- the lines of an answer begin as they did

lists_by_test : (r : Reached) (b : ℕ) (ends : Bool)
    → (cond ends (after_word r b) (record r { word = take most_word_bytes (r.word ++ b ∷ []) })).lists ≡ r.lists
lists_by_test r b true = refl
lists_by_test r b false = refl

lists_of_after : (r : Reached) (bytes : List ℕ) → (after_bytes r bytes).lists ≡ r.lists
lists_of_after r [] = refl
lists_of_after r (b ∷ bytes) = lists_of_after (after_byte r b) bytes ∙ lists_by_test r b (ends_word b)

after_append : (r : Reached) (bytes more : List ℕ) → after_bytes r (bytes ++ more) ≡ after_bytes (after_bytes r bytes) more
after_append r [] more = refl
after_append r (b ∷ bytes) more = after_append (after_byte r b) bytes more

-- ---- what is known of it

-- the first bytes of a name, where the writer behind has failed, and none otherwise
abbrev pub part_of : NameTable → Reached → Bool → ℕ → List ℕ
part_of names r failed n = cond failed (take n (tag names r)) []

-- the bytes are the answer with names, and the answer comes so far
abbrev IsSo : NameTable → Reached → Bool → List ℕ → List ℕ → Type 0
IsSo names r failed bytes plain =
    (bytes ≡ with_begun_name names r failed (length bytes) (text_with_names names (answer_start r.lists) plain)) × (after_bytes (answer_start r.lists) plain ≡ r)

some_by_test : (test : Bool) (p q : List ℕ) → cond test (Some p) None ≡ Some q → (test ≡ true) × (p ≡ q)
some_by_test true p q e = (refl, cc e)
some_by_test false p q e = absurd (cc e)

so_if_plain : (names : NameTable) (r : Reached) (failed : Bool) (bytes found plain : List ℕ) → plain_if names r failed bytes found ≡ Some plain
    → IsSo names r failed bytes plain
so_if_plain names r failed bytes found plain e =
    let some = some_by_test _ found plain e in
    let both = conjuncts_are_true _ _ some.0 in
    subst (λ p. IsSo names r failed bytes p) some.1
    ((bytes_eq-Decides bytes (with_begun_name names r failed (length bytes) (text_with_names names (answer_start r.lists) found))).0 both.0, is_same_reached _ _ both.1)

plain_if_so : (names : NameTable) (r : Reached) (failed : Bool) (bytes plain : List ℕ) → IsSo names r failed bytes plain
    → plain_if names r failed bytes plain ≡ Some plain
plain_if_so names r failed bytes plain so =
    let same = (bytes_eq-Decides bytes (with_begun_name names r failed (length bytes) (text_with_names names (answer_start r.lists) plain))).1 so.0 in
    let comes : reached_alike (after_bytes (answer_start r.lists) plain) r ≡ true =
    subst (λ z. reached_alike z r ≡ true) (sym so.1) (same_is_reached r) in
    ap (λ (test : Bool). cond (test && reached_alike (after_bytes (answer_start r.lists) plain) r) (Some plain) None) same
    ∙ ap (λ (test : Bool). cond test (Some plain) None) comes

unnamed_of_part : (names : NameTable) (r : Reached) (failed : Bool) (n : ℕ) → unnamed names r None (part_of names r failed n) ≡ []
unfolding unnamed
unnamed_of_part names r true n = unnamed_of_begun_name names r n
unnamed_of_part names r false n = refl

-- an answer with names, and the first bytes of a name after it, give the plain answer
found_of_named : (names : NameTable) (r : Reached) (failed : Bool) (n : ℕ) (plain : List ℕ) → after_bytes (answer_start r.lists) plain ≡ r
    → unnamed names (answer_start r.lists) None (text_with_names names (answer_start r.lists) plain ++ part_of names r failed n) ≡ plain
found_of_named names r failed n plain e =
    unnamed_of_named names (answer_start r.lists) plain (part_of names r failed n)
    ∙ ap (λ (z : Reached). plain ++ unnamed names z None (part_of names r failed n)) e
    ∙ ap (λ (rest : List ℕ). plain ++ rest) (unnamed_of_part names r failed n)
    ∙ append-nil plain

take_length_of_take : (n : ℕ) (t : List ℕ) → take (length (take n t)) t ≡ take n t
take_length_of_take zero t = refl
take_length_of_take (suc n) [] = refl
take_length_of_take (suc n) (b ∷ t) = ap (λ (rest : List ℕ). b ∷ rest) (take_length_of_take n t)

pub no_part : (names : NameTable) (r : Reached) (failed : Bool) → part_of names r failed 0 ≡ []
no_part names r true = refl
no_part names r false = refl

length_of_part : (names : NameTable) (r : Reached) (failed : Bool) (n : ℕ) (text : List ℕ)
    → with_begun_name names r failed (length (text ++ part_of names r failed n)) text ≡ text ++ part_of names r failed n
length_of_part names r false n text = refl
length_of_part names r true n text =
    let t = tag names r in
    let size : length (text ++ take n t) - length text ≡ length (take n t) = omega (arith, length-append text (take n t)) in
    ap (λ (k : ℕ). text ++ take k t) size ∙ ap (λ (part : List ℕ). text ++ part) (take_length_of_take n t)

-- so that is known
known_if_named : (names : NameTable) (r : Reached) (failed : Bool) (n : ℕ) (bytes plain : List ℕ) → after_bytes (answer_start r.lists) plain ≡ r
    → bytes ≡ text_with_names names (answer_start r.lists) plain ++ part_of names r failed n → plain_of names r failed bytes ≡ Some plain
known_if_named names r failed n bytes plain e f =
    let whole = text_with_names names (answer_start r.lists) plain ++ part_of names r failed n in
    ap (plain_of names r failed) f
    ∙ ap (plain_if names r failed whole) (found_of_named names r failed n plain e)
    ∙ plain_if_so names r failed whole plain (sym (length_of_part names r failed n (text_with_names names (answer_start r.lists) plain)), e)

-- ---- it grows

grown_if_known : (names : NameTable) (r r' : Reached) (failed : Bool) (n : ℕ) (text all plain : List ℕ) → r' ≡ after_bytes r text
    → IsSo names r false all plain → plain_of names r' failed (all ++ (text_with_names names r text ++ part_of names r' failed n)) ≡ Some (plain ++ text)
grown_if_known names r r' failed n text all plain e so =
    let same_lists : r'.lists ≡ r.lists = ap (λ (z : Reached). z.lists) e ∙ lists_of_after r text in
    let start = answer_start r.lists in
    let part = part_of names r' failed n in
    let comes : after_bytes (answer_start r'.lists) (plain ++ text) ≡ r' =
    ap (λ (l : Bool). after_bytes (answer_start l) (plain ++ text)) same_lists ∙ after_append start plain text ∙ ap (λ (z : Reached). after_bytes z text) so.1 ∙ sym e in
    let bytes : all ++ (text_with_names names r text ++ part) ≡ text_with_names names (answer_start r'.lists) (plain ++ text) ++ part =
    ap (λ (first : List ℕ). first ++ (text_with_names names r text ++ part)) (so.0 ∙ append-nil (text_with_names names start plain))
    ∙ sym (append_assoc (text_with_names names start plain) (text_with_names names r text) part)
    ∙ ap (λ (z : Reached). (text_with_names names start plain ++ text_with_names names z text) ++ part) (sym so.1)
    ∙ ap (λ (first : List ℕ). first ++ part) (sym (named_append names start plain text))
    ∙ ap (λ (l : Bool). text_with_names names (answer_start l) (plain ++ text) ++ part) (sym same_lists) in
    known_if_named names r' failed n _ (plain ++ text) comes bytes

grown_by_known : (names : NameTable) (r r' : Reached) (failed : Bool) (n : ℕ) (text all : List ℕ) (known : Option (List ℕ)) → r' ≡ after_bytes r text
    → plain_of names r false all ≡ known
    → Appends known (plain_of names r' failed (all ++ (text_with_names names r text ++ part_of names r' failed n))) text
grown_by_known names r r' failed n text all None e f = tt
grown_by_known names r r' failed n text all (Some plain) e f =
    subst (λ z. Appends (Some plain) z text) (sym (grown_if_known names r r' failed n text all plain e (so_if_plain names r false all (unnamed names (answer_start r.lists) None all) plain f))) refl

-- what is known of the plain answer grows by a text, where the writer behind takes the text with names, and if it fails, the first bytes of a name
pub plain_grows : (names : NameTable) (r r' : Reached) (failed : Bool) (n : ℕ) (text : List ℕ) (old new : Option (List ℕ)) → r' ≡ after_bytes r text
    → Appends old new (text_with_names names r text ++ part_of names r' failed n) → Appends (plain_taken names r false old) (plain_taken names r' failed new) text
plain_grows names r r' failed n text None new e a = tt
plain_grows names r r' failed n text (Some all) None e a = absurd a
plain_grows names r r' failed n text (Some all) (Some more) e a =
    subst (λ z. Appends (plain_of names r false all) (plain_of names r' failed z) text) (sym a)
    (grown_by_known names r r' failed n text all (plain_of names r false all) e refl)

behind_numbers : (k k' : List ℕ) (a b : Option (List ℕ)) (text : List ℕ) → k' ≡ k → Appends a b text
    → Appends (option_map (λ plain. k ++ plain) a) (option_map (λ plain. k' ++ plain) b) text
behind_numbers k k' None b text e g = tt
behind_numbers k k' (Some xs) None text e g = absurd g
behind_numbers k k' (Some xs) (Some ys) text e g =
    ap (λ (z : List ℕ). z ++ ys) e ∙ ap (λ (z : List ℕ). k ++ z) g ∙ sym (append_assoc k xs text)

-- the same behind the numbers of the names
pub known_grows : (names : NameTable) (r r' : Reached) (failed : Bool) (n : ℕ) (text : List ℕ) (old new : Option (List ℕ)) → r' ≡ after_bytes r text
    → Appends old new (text_with_names names r text ++ part_of names r' failed n) → Appends (known_plain names r false old) (known_plain names r' failed new) text
known_grows names r r' failed n text old new e a =
    let lists : r'.lists ≡ r.lists = ap (λ (z : Reached). z.lists) e ∙ lists_of_after r text in
    behind_numbers (begun_numbers names r.lists) (begun_numbers names r'.lists) (plain_taken names r false old) (plain_taken names r' failed new) text
    (ap (begun_numbers names) lists) (plain_grows names r r' failed n text old new e a)

-- nothing more is what was
pub kept_by_nothing : (old new : Option (List ℕ)) → Appends old new [] → Keeps old new
kept_by_nothing None new a = tt
kept_by_nothing (Some xs) None a = a
kept_by_nothing (Some xs) (Some ys) a = a ∙ append-nil xs

pub nothing_by_kept : (old new : Option (List ℕ)) → Keeps old new → Appends old new []
nothing_by_kept None new a = tt
nothing_by_kept (Some xs) None a = a
nothing_by_kept (Some xs) (Some ys) a = a ∙ sym (append-nil xs)

-- ---- its start and its end

-- before its first byte nothing is taken, if nothing is known to be written before
pub nothing_taken_at_start : (names : NameTable) (lists failed : Bool) → plain_taken names (answer_start lists) failed (Some []) ≡ Some []
nothing_taken_at_start names lists failed =
    known_if_named names (answer_start lists) failed 0 [] [] refl (sym (no_part names (answer_start lists) failed))

-- what the writer behind took is the answer with names, and the first bytes of a name after it, if the writer has failed
pub named_if_taken : (names : NameTable) (r : Reached) (failed : Bool) (bytes plain : List ℕ) → plain_taken names r failed (Some bytes) ≡ Some plain
    → IsSo names r failed bytes plain
named_if_taken names r failed bytes plain e = so_if_plain names r failed bytes (unnamed names (answer_start r.lists) None bytes) plain e
