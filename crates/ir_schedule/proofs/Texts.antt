-- Texts that occur, and words before a blank.
use Rattle.std.proofs.Common.{◌≡◌, ◌≢◌, ℕ, zero, suc, ◌+◌, ◌-◌, ◌<◌, ◌≤◌, ◌==◌, eqb, Bool, true, false, ◌||◌, if◌then◌else◌, List, [], ◌∷◌}
use Rattle.std.proofs.Common.{length, take, drop, map, get_or, refl, sym, ap, ◌∙◌, arith, eq-eqb, ne_eqb}
use Rattle.std.proofs.lemmas.List.{drop_all, length-drop, take_all}
use Rattle.std.specs.List.{list_any, starts_with}
use Rattle.ir_schedule.specs.Conditions.{occurs_in, some_is}
use Rattle.ir_schedule.specs.Spelling.{word_length, marks}

-- at one place, or behind it
occurs_in_drop_step : (text bytes : List ℕ) (start : ℕ) → start < length bytes
    → occurs_in text (drop start bytes) ≡ (starts_with eqb (drop start bytes) text || occurs_in text (drop (suc start) bytes))
occurs_in_drop_step text [] start l = absurd (omega (arith, l))
occurs_in_drop_step text (x ∷ bytes) zero l = refl
occurs_in_drop_step text (x ∷ bytes) (suc start) l = occurs_in_drop_step text bytes start (omega (arith, l))

starts_with_take_to_end : (text bytes : List ℕ) (start : ℕ)
    → starts_with eqb (take (length bytes - start) (drop start bytes)) text ≡ starts_with eqb (drop start bytes) text
starts_with_take_to_end text bytes start = ap (λ xs. starts_with eqb xs text)
    (take_all (length bytes - start) (drop start bytes) (let n = length-drop start bytes in omega (arith, n)))

-- it stands here
pub occurs_at_place : (text bytes : List ℕ) (start : ℕ) (b : Bool) → start < length bytes → b ≡ starts_with eqb (take (length bytes - start) (drop start bytes)) text → b ≡ true
    → occurs_in text (drop start bytes) ≡ occurs_in text bytes → true ≡ occurs_in text bytes
occurs_at_place text bytes start b l e is h =
    sym (occurs_in_drop_step text bytes start l ∙ ap (λ z. z || occurs_in text (drop (suc start) bytes)) (sym (e ∙ starts_with_take_to_end text bytes start) ∙ is)) ∙ h

-- it doesn't stand here
pub occurs_in_rest_same : (text bytes : List ℕ) (start : ℕ) (b : Bool) → start < length bytes → b ≡ starts_with eqb (take (length bytes - start) (drop start bytes)) text
    → b ≡ false → occurs_in text (drop start bytes) ≡ occurs_in text bytes → occurs_in text (drop (start + 1) bytes) ≡ occurs_in text bytes
occurs_in_rest_same text bytes start b l e is h =
    ap (λ k. occurs_in text (drop k bytes)) (let same : start + 1 ≡ suc start = omega arith in same)
    ∙ sym (occurs_in_drop_step text bytes start l ∙ ap (λ z. z || occurs_in text (drop (suc start) bytes)) (sym (e ∙ starts_with_take_to_end text bytes start) ∙ is)) ∙ h

occurs_in_empty : (text : List ℕ) (b : Bool) → b ≡ (length text == 0) → b ≡ occurs_in text []
occurs_in_empty [] b e = e
occurs_in_empty (x ∷ text) b e = e ∙ ne_eqb (suc (length text)) 0 (λ is. omega (arith, is))

-- it stands nowhere but at the end, if it is empty
pub occurs_at_end : (text bytes : List ℕ) (start : ℕ) (b : Bool) → length bytes ≤ start → b ≡ (length text == 0)
    → occurs_in text (drop start bytes) ≡ occurs_in text bytes → b ≡ occurs_in text bytes
occurs_at_end text bytes start b l e h = occurs_in_empty text b e ∙ ap (occurs_in text) (sym (drop_all start bytes l)) ∙ h

-- ---- words

word_length_drop : (text : List ℕ) (index : ℕ) → index < length text
    → word_length (drop index text) ≡ (if get_or text index 0 == 32 then 0 else suc (word_length (drop (suc index) text)))
word_length_drop [] index l = absurd (omega (arith, l))
word_length_drop (b ∷ text) zero l = refl
word_length_drop (b ∷ text) (suc index) l = word_length_drop text index (omega (arith, l))

get_or_zero_is_element : (xs : List ℕ) (i x : ℕ) → i < length xs → x ≡ get_or xs i x → x ≡ get_or xs i 0
get_or_zero_is_element [] i x l e = absurd (omega (arith, l))
get_or_zero_is_element (y ∷ xs) zero x l e = e
get_or_zero_is_element (y ∷ xs) (suc i) x l e = get_or_zero_is_element xs i x (omega (arith, l)) e

pub word_length_at_space : (text : List ℕ) (index b : ℕ) → index < length text → b ≡ get_or text index b → b ≡ 32
    → index + word_length (drop index text) ≡ word_length text → index ≡ word_length text
word_length_at_space text index b l e is h =
    let here : get_or text index 0 ≡ 32 = sym (get_or_zero_is_element text index b l e) ∙ is in
    let none : word_length (drop index text) ≡ 0 = word_length_drop text index l
    ∙ ap (λ z. if z then 0 else suc (word_length (drop (suc index) text))) (eq-eqb (get_or text index 0) 32 here) in
    omega (arith, none, h)

pub word_length_step : (text : List ℕ) (index b : ℕ) → index < length text → b ≡ get_or text index b → b ≢ 32
    → index + word_length (drop index text) ≡ word_length text → index + 1 + word_length (drop (index + 1) text) ≡ word_length text
word_length_step text index b l e ne h =
    let here : get_or text index 0 ≢ 32 = λ is. ne (get_or_zero_is_element text index b l e ∙ is) in
    let more : word_length (drop index text) ≡ suc (word_length (drop (suc index) text)) = word_length_drop text index l
    ∙ ap (λ z. if z then 0 else suc (word_length (drop (suc index) text))) (ne_eqb (get_or text index 0) 32 here) in
    let same : word_length (drop (index + 1) text) ≡ word_length (drop (suc index) text) =
    ap (λ k. word_length (drop k text)) (let k : index + 1 ≡ suc index = omega arith in k) in
    omega (arith, more, same, h)

pub word_length_at_end : (text : List ℕ) (index : ℕ) → length text ≤ index → index ≤ length text
    → index + word_length (drop index text) ≡ word_length text → length text ≡ word_length text
word_length_at_end text index l m h =
    let none : word_length (drop index text) ≡ 0 = ap word_length (drop_all index text l) in
    omega (arith, l, m, none, h)

-- ---- marks

marks_of_drop_step : (text : List ℕ) (index : ℕ) → index < length text
    → marks (drop index text) ≡ (if get_or text index 0 == 33 then suc (marks (drop (suc index) text)) else 0)
marks_of_drop_step [] index l = absurd (omega (arith, l))
marks_of_drop_step (b ∷ text) zero l = refl
marks_of_drop_step (b ∷ text) (suc index) l = marks_of_drop_step text index (omega (arith, l))

pub marks_at_other_byte : (text : List ℕ) (index b : ℕ) → index < length text → b ≡ get_or text index b → b ≢ 33
    → index + marks (drop index text) ≡ marks text → index ≡ marks text
marks_at_other_byte text index b l e ne h =
    let none : marks (drop index text) ≡ 0 = marks_of_drop_step text index l
    ∙ ap (λ z. if z then suc (marks (drop (suc index) text)) else 0)
    (ne_eqb (get_or text index 0) 33 (λ is. ne (get_or_zero_is_element text index b l e ∙ is))) in
    omega (arith, none, h)

pub marks_step : (text : List ℕ) (index b : ℕ) → index < length text → b ≡ get_or text index b → b ≡ 33
    → index + marks (drop index text) ≡ marks text → index + 1 + marks (drop (index + 1) text) ≡ marks text
marks_step text index b l e is h =
    let more : marks (drop index text) ≡ suc (marks (drop (suc index) text)) = marks_of_drop_step text index l
    ∙ ap (λ z. if z then suc (marks (drop (suc index) text)) else 0)
    (eq-eqb (get_or text index 0) 33 (sym (get_or_zero_is_element text index b l e) ∙ is)) in
    let same : marks (drop (index + 1) text) ≡ marks (drop (suc index) text) =
    ap (λ k. marks (drop k text)) (let k : index + 1 ≡ suc index = omega arith in k) in
    omega (arith, more, same, h)

pub marks_at_text_end : (text : List ℕ) (index : ℕ) → length text ≤ index → index ≤ length text
    → index + marks (drop index text) ≡ marks text → length text ≡ marks text
marks_at_text_end text index l m h =
    let none : marks (drop index text) ≡ 0 = ap marks (drop_all index text l) in
    omega (arith, l, m, none, h)

-- ---- some element

some_is_of_drop_step : {A B : Type 0} (test : B → Bool) (f : A → B) (xs : List A) (i : ℕ) (d : A) → i < length xs
    → some_is test (map f (drop i xs)) ≡ (test (f (get_or xs i d)) || some_is test (map f (drop (suc i) xs)))
some_is_of_drop_step test f [] i d l = absurd (omega (arith, l))
some_is_of_drop_step test f (x ∷ xs) zero d l = refl
some_is_of_drop_step test f (x ∷ xs) (suc i) d l = some_is_of_drop_step test f xs i d (omega (arith, l))

pub some_is_true_at_place : {A B : Type 0} (test : B → Bool) (f : A → B) (xs : List A) (i : ℕ) (x : A) → i < length xs → x ≡ get_or xs i x
    → test (f x) ≡ true → some_is test (map f (drop i xs)) ≡ some_is test (map f xs) → true ≡ some_is test (map f xs)
some_is_true_at_place test f xs i x l e is h =
    sym (some_is_of_drop_step test f xs i x l ∙ ap (λ z. z || some_is test (map f (drop (suc i) xs))) (ap (λ y. test (f y)) (sym e) ∙ is)) ∙ h

pub some_is_step : {A B : Type 0} (test : B → Bool) (f : A → B) (xs : List A) (i : ℕ) (x : A) → i < length xs → x ≡ get_or xs i x
    → test (f x) ≡ false → some_is test (map f (drop i xs)) ≡ some_is test (map f xs)
    → some_is test (map f (drop (i + 1) xs)) ≡ some_is test (map f xs)
some_is_step test f xs i x l e is h =
    ap (λ k. some_is test (map f (drop k xs))) (let same : i + 1 ≡ suc i = omega arith in same)
    ∙ sym (some_is_of_drop_step test f xs i x l ∙ ap (λ z. z || some_is test (map f (drop (suc i) xs))) (ap (λ y. test (f y)) (sym e) ∙ is)) ∙ h

pub some_is_false_at_end : {A B : Type 0} (test : B → Bool) (f : A → B) (xs : List A) (i : ℕ) → length xs ≤ i
    → some_is test (map f (drop i xs)) ≡ some_is test (map f xs) → false ≡ some_is test (map f xs)
some_is_false_at_end test f xs i l h = ap (λ ys. some_is test (map f ys)) (sym (drop_all i xs l)) ∙ h

-- ---- literals

-- some element passes a test after a function, if the function's value passes the test
pub list_any-map : {X Y : Type 0} (test : X → Bool) (h : Y → X) (ys : List Y) → list_any test (map h ys) ≡ list_any (λ y. test (h y)) ys
list_any-map test h [] = refl
list_any-map test h (y ∷ ys) = ap (λ b. test (h y) || b) (list_any-map test h ys)
