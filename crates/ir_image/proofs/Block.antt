-- Words that are read in one piece are those read one after the other.
use Rattle.std.proofs.Common.{◌≡◌, ℕ, zero, suc, ◌*◌, ◌<◌, false, ltb, List, [], ◌∷◌, ◌++◌, length, slice_index, take, drop, Ok, Err, refl, sym, ap, subst, ◌∙◌, arith, length-take-le}
use Rattle.std.proofs.lemmas.Bool.{le-ltb}
use Rattle.std.proofs.lemmas.List.{nil_from_length, take-append-drop}
use Rattle.std.proofs.Math.Seq.{take-append_seam}
use Rattle.byteorder.specs.Endian.{little_number, IsRead}
use Rattle.ir_image.specs.declared.image_err.ImageErr.TheVariants.{Short}
use Rattle.ir_bytes.specs.Reading.{number_at, bytes_at, fields_at}
use Rattle.ir_bytes.proofs.CallerLemmas.{bytes_at_gives_parts, bytes_at_fails_if_short}
use Rattle.ir_image.specs.declared.image_err.ImageErr.{ImageErr}
use Rattle.ir_image.specs.Fields.{word_at}
use Rattle.ir_image.specs.Results.{FailsAsImage}

word_at_of_four_bytes : (a b c d : ℕ) (rest : List ℕ) → word_at (a ∷ b ∷ c ∷ d ∷ rest) ≡ Ok (little_number 4 (a ∷ b ∷ c ∷ d ∷ []), rest)
unfolding number_at
word_at_of_four_bytes a b c d rest =
    let long : ltb (length (a ∷ b ∷ c ∷ d ∷ rest)) 4 ≡ false = le-ltb _ _ (omega arith) in
    rw long refl

-- fewer bytes than the words need
words_fail_if_short : (n : ℕ) (bytes : List ℕ) → length bytes < 4 * n → fields_at word_at n bytes ≡ Err Short
unfolding fields_at number_at
words_fail_if_short zero bytes h = absurd (omega arith)
words_fail_if_short (suc n) [] h = refl
words_fail_if_short (suc n) (a ∷ []) h = refl
words_fail_if_short (suc n) (a ∷ b ∷ []) h = refl
words_fail_if_short (suc n) (a ∷ b ∷ c ∷ []) h = refl
words_fail_if_short (suc n) (a ∷ b ∷ c ∷ d ∷ rest) h = rw (word_at_of_four_bytes a b c d rest, words_fail_if_short n rest (omega arith)) refl

pub words_fail : (n : ℕ) (bytes : List ℕ) (e : ImageErr) → bytes_at Short (4 * n) bytes ≡ Err e → FailsAsImage e (fields_at word_at n bytes)
words_fail n bytes e h =
    let g = bytes_at_fails_if_short Short e (4 * n) bytes h in
    subst (λ (x : ImageErr). FailsAsImage x (fields_at word_at n bytes)) g.1 (words_fail_if_short n bytes g.0)

-- the words of a piece but its first
pub tail_words_are_read : (w : ℕ) (ws : List ℕ) (a b c d : ℕ) (more : List ℕ) → IsRead little_number 4 (a ∷ b ∷ c ∷ d ∷ more) (w ∷ ws)
    → IsRead little_number 4 more ws
tail_words_are_read w ws a b c d more h k lt =
    let step : 4 * suc k ≡ suc (suc (suc (suc (4 * k)))) = omega arith in
    subst (λ (i : ℕ). slice_index ws k ≡ little_number 4 (drop i (a ∷ b ∷ c ∷ d ∷ more))) step (h (suc k) (omega arith))

words_at_of_read_bytes : (ws own rest : List ℕ) → length own ≡ 4 * length ws → IsRead little_number 4 own ws
    → fields_at word_at (length ws) (own ++ rest) ≡ Ok (ws, rest)
unfolding fields_at
words_at_of_read_bytes [] own rest e h = rw (nil_from_length own e) refl
words_at_of_read_bytes (w ∷ ws) [] rest e h = absurd (omega arith)
words_at_of_read_bytes (w ∷ ws) (a ∷ []) rest e h = absurd (omega arith)
words_at_of_read_bytes (w ∷ ws) (a ∷ b ∷ []) rest e h = absurd (omega arith)
words_at_of_read_bytes (w ∷ ws) (a ∷ b ∷ c ∷ []) rest e h = absurd (omega arith)
words_at_of_read_bytes (w ∷ ws) (a ∷ b ∷ c ∷ d ∷ more) rest e h =
    let first : w ≡ little_number 4 (a ∷ b ∷ c ∷ d ∷ []) = h 0 (omega arith) in
    let next = words_at_of_read_bytes ws more rest (omega arith) (tail_words_are_read w ws a b c d more h) in
    rw (word_at_of_four_bytes a b c d (more ++ rest), next, ← first) refl

-- a list that was written over the whole of another of its length
take_written_prefix : (dst items : List ℕ) (n : ℕ) → length dst ≡ n → take n (dst ++ drop (length dst) items) ≡ dst
take_written_prefix dst items n e = ap (λ (k : ℕ). take k (dst ++ drop (length dst) items)) (sym e) ∙ take-append_seam dst (drop (length dst) items)

pub words_at_overwritten : (n room : ℕ) (bytes own rest ws items : List ℕ) → bytes_at Short (4 * n) bytes ≡ Ok (own, rest) → length ws ≡ n
    → room ≡ n → IsRead little_number 4 own ws
    → fields_at word_at n bytes ≡ Ok (take room (ws ++ drop (length ws) items), rest)
words_at_overwritten n room bytes own rest ws items e count full h =
    let p = bytes_at_gives_parts Short (4 * n) bytes (own, rest) e in
    let whole : bytes ≡ own ++ rest = sym (take-append-drop (4 * n) bytes) ∙ ap (λ (x : List ℕ). x ++ drop (4 * n) bytes) (sym p.prefix) ∙
    ap (λ (x : List ℕ). own ++ x) (sym p.back) in
    let size : length own ≡ 4 * length ws = omega (arith, ap length p.prefix, length-take-le (4 * n) bytes p.long) in
    ap (λ (k : ℕ). fields_at word_at k bytes) (sym count) ∙ ap (fields_at word_at (length ws)) whole ∙ words_at_of_read_bytes ws own rest size h
    ∙ ap (λ (x : List ℕ). Ok (x, rest)) (sym (take_written_prefix ws items room (count ∙ sym full)))
