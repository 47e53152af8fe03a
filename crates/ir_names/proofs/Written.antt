-- What each way out of a write of a writer with names leaves known.
use Rattle.std.proofs.Common.{◌≡◌, ◌≤◌, ◌<◌, ℕ, zero, suc, Bool, true, false, cond, List, [], ◌∷◌, ◌++◌, length, take}
use Rattle.std.proofs.Common.{refl, sym, ap, ◌∙◌, subst, arith, append-nil}
use Rattle.std.specs.Prelude.{Option, Some, None}
use Rattle.std.specs.Io.KnownBytes.{Appends, Keeps}
use Rattle.std.proofs.lemmas.List.{take_all}
use Rattle.std.proofs.KnownBytes.{Appends-trans}
use Rattle.ir_stream.specs.Answers.{AppendsPrefix}
use Rattle.ir_names.specs.Naming.{Reached, after_bytes, ends_word, text_with_names, byte_with_name, tag}
use Rattle.ir_names.specs.Taken.{known_plain, bytes_before_name}
use Rattle.ir_names.specs.Things.{NameTable}
use Rattle.ir_names.proofs.Back.{name_if_none_passes, named_of_passing}
use Rattle.ir_names.proofs.Grown.{kept_by_nothing, known_grows, no_part, nothing_by_kept, part_of}

-- ---- nothing of the answer is taken

-- the writer behind took the first bytes of a name, and has failed
kept_in_part : (names : NameTable) (r : Reached) (was is : Bool) (n : ℕ) (old new : Option (List ℕ)) → was ≡ false
    → Appends old new (part_of names r is n) → Keeps (known_plain names r was old) (known_plain names r is new)
kept_in_part names r was is n old new e a =
    subst (λ z. Keeps (known_plain names r z old) (known_plain names r is new)) (sym e)
    (kept_by_nothing _ _ (known_grows names r r is n [] old new refl a))

-- it took nothing
pub kept_if_failed : (names : NameTable) (r : Reached) (was is : Bool) (old new : Option (List ℕ)) → was ≡ false → Keeps old new
    → Keeps (known_plain names r was old) (known_plain names r is new)
kept_if_failed names r was is old new e kept =
    kept_in_part names r was is 0 old new e (subst (λ part. Appends old new part) (sym (no_part names r is)) (nothing_by_kept old new kept))

first_part : (part more : List ℕ) → take (length part) (part ++ more) ≡ part
first_part [] more = refl
first_part (b ∷ part) more = ap (λ (rest : List ℕ). b ∷ rest) (first_part part more)

-- it took a part of a name
pub kept_in_name : (names : NameTable) (r : Reached) (was is : Bool) (old new : Option (List ℕ)) → was ≡ false → is ≡ true
    → AppendsPrefix old new (tag names r) → Keeps (known_plain names r was old) (known_plain names r is new)
kept_in_name names r was is old new e f a =
    let part : part_of names r is (length a.part) ≡ a.part =
    ap (λ (z : Bool). part_of names r z (length a.part)) f ∙ ap (take (length a.part)) a.splits ∙ first_part a.part a.more in
    kept_in_part names r was is (length a.part) old new e (subst (λ p. Appends old new p) (sym part) a.grown)

-- it took a name, and nothing more
pub kept_after_name : (names : NameTable) (r : Reached) (was is : Bool) (old mid new : Option (List ℕ)) → was ≡ false → is ≡ true
    → Appends old mid (tag names r) → Keeps mid new → Keeps (known_plain names r was old) (known_plain names r is new)
kept_after_name names r was is old mid new e f a kept =
    let whole = tag names r in
    let part : part_of names r is (length whole) ≡ whole ++ [] =
    ap (λ (z : Bool). part_of names r z (length whole)) f ∙ take_all (length whole) whole (omega arith) ∙ sym (append-nil whole) in
    kept_in_part names r was is (length whole) old new e
    (subst (λ p. Appends old new p) (sym part) (Appends-trans old mid new whole [] a (nothing_by_kept mid new kept)))

-- ---- a part of the answer is taken

taken_within : (bytes : List ℕ) (n count : ℕ) → n ≤ count → take n (take count bytes) ≡ take n bytes
taken_within bytes zero count l = refl
taken_within [] (suc n) zero l = refl
taken_within [] (suc n) (suc count) l = refl
taken_within (b ∷ bytes) (suc n) zero l = absurd (omega (arith, l))
taken_within (b ∷ bytes) (suc n) (suc count) l = ap (λ (rest : List ℕ). b ∷ rest) (taken_within bytes n count (omega (arith, l)))

taken_at_most : (bytes : List ℕ) (count : ℕ) → length (take count bytes) ≤ count
taken_at_most bytes zero = omega arith
taken_at_most [] (suc count) = omega arith
taken_at_most (b ∷ bytes) (suc count) = let rest : length (take count bytes) ≤ count = taken_at_most bytes count in omega (arith, rest)

-- bytes that pass as they are
pub grown_by_passing : (names : NameTable) (r r' : Reached) (was is : Bool) (bytes : List ℕ) (n count : ℕ) (old new : Option (List ℕ)) → was ≡ false
    → is ≡ was → count ≡ bytes_before_name names r bytes → n ≤ length (take count bytes) → r' ≡ after_bytes r (take n bytes) → Appends old new (take n (take count bytes))
    → Appends (known_plain names r was old) (known_plain names r' is new) (take n bytes)
grown_by_passing names r r' was is bytes n count old new e f g l h a =
    let text = take n bytes in
    let at_most : length (take count bytes) ≤ count = taken_at_most bytes count in
    let within : n ≤ count = omega (arith, at_most, l) in
    let as_is : take n (take count bytes) ≡ text_with_names names r text ++ part_of names r' is 0 =
    taken_within bytes n count within ∙ sym (named_of_passing names r bytes n (subst (λ k. n ≤ k) g within)) ∙ sym (append-nil (text_with_names names r text))
    ∙ ap (λ (part : List ℕ). text_with_names names r text ++ part) (sym (no_part names r' is)) in
    subst (λ z. Appends (known_plain names r z old) (known_plain names r' is new) text) (sym e)
    (known_grows names r r' is 0 text old new h (subst (λ p. Appends old new p) as_is a))

ended_text : (names : NameTable) (r : Reached) (b : ℕ) (ends : Bool) → ends_word b ≡ ends → ends ≡ true → byte_with_name names r b ≡ tag names r ++ b ∷ []
ended_text names r b ends e f = ap (λ (z : Bool). cond z (tag names r ++ b ∷ []) (b ∷ [])) (e ∙ f)

ended_by_byte : (names : NameTable) (r r' : Reached) (was is : Bool) (b : ℕ) (bytes : List ℕ) (old mid new : Option (List ℕ)) → was ≡ false
    → bytes_before_name names r (b ∷ bytes) ≡ 0 → r' ≡ after_bytes r (b ∷ []) → Appends old mid (tag names r) → Appends mid new (b ∷ [])
    → Appends (known_plain names r was old) (known_plain names r' is new) (b ∷ [])
ended_by_byte names r r' was is b bytes old mid new e none h a more =
    let ends = name_if_none_passes names r b bytes none in
    let text : tag names r ++ b ∷ [] ≡ text_with_names names r (b ∷ []) ++ part_of names r' is 0 =
    sym (ended_text names r b (ends_word b) refl ends.0) ∙ sym (append-nil (byte_with_name names r b)) ∙ sym (append-nil (byte_with_name names r b ++ []))
    ∙ ap (λ (part : List ℕ). text_with_names names r (b ∷ []) ++ part) (sym (no_part names r' is)) in
    subst (λ z. Appends (known_plain names r z old) (known_plain names r' is new) (b ∷ [])) (sym e)
    (known_grows names r r' is 0 (b ∷ []) old new h (subst (λ p. Appends old new p) text (Appends-trans old mid new (tag names r) (b ∷ []) a more)))

-- the end of a word that has a name
pub grown_by_end : (names : NameTable) (r r' : Reached) (was is : Bool) (bytes : List ℕ) (n : ℕ) (old mid new : Option (List ℕ)) → was ≡ false
    → bytes_before_name names r bytes ≡ 0 → 0 < length bytes → n ≤ length (take 1 bytes) → (n ≡ 0 → take 1 bytes ≡ []) → r' ≡ after_bytes r (take n bytes)
    → Appends old mid (tag names r) → Appends mid new (take n (take 1 bytes))
    → Appends (known_plain names r was old) (known_plain names r' is new) (take n bytes)
grown_by_end names r r' was is [] n old mid new e none l m some h a more = absurd (omega (arith, l))
grown_by_end names r r' was is (b ∷ bytes) zero old mid new e none l m some h a more = absurd (cc (some refl))
grown_by_end names r r' was is (b ∷ bytes) (suc zero) old mid new e none l m some h a more =
    ended_by_byte names r r' was is b bytes old mid new e none h a more
grown_by_end names r r' was is (b ∷ bytes) (suc (suc n)) old mid new e none l m some h a more = absurd (omega (arith, m))

-- ---- nothing is written

pub nothing_appended : (known : Option (List ℕ)) (text : List ℕ) → text ≡ [] → Appends known known text
nothing_appended None text e = tt
nothing_appended (Some xs) text e = sym (append-nil xs) ∙ ap (λ (z : List ℕ). xs ++ z) (sym e)

pub kept_as_is : (known : Option (List ℕ)) → Keeps known known
kept_as_is None = tt
kept_as_is (Some xs) = refl
